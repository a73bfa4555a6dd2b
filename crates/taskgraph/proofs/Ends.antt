-- Before which item those lie in whose counts an item is.
use Rattle.std.proofs.Common.{◌≡◌, ◌⊎◌, inl, inr, ℕ, ◌+◌, ◌<◌, ◌≤◌, true, false, List, length, refl, sym, ap, ◌∙◌, arith}
use Rattle.std.specs.Prelude.{nat_le, slice_index}
use Rattle.std.specs.List.{slice_set}
use Rattle.std.proofs.lemmas.Bool.{and_parts, cases_eq, leb-true}
use Rattle.std.proofs.lemmas.List.{get_or-set_same, get_or-set_other, length-set}
use Rattle.base.specs.Items.{Plan}
use Rattle.base.specs.Machine.{precedes}
use Rattle.taskgraph.specs.declared.Task.{Task}
use Rattle.taskgraph.specs.Waiting.{AreEndsTo, IsExtended, is_counted, plan_for}
use Rattle.taskgraph.proofs.Precedence.{before}

-- what the ends before and after one step of the loop are to each other
pub record Loop (ts : List Task) (start item earlier : ℕ) (old now : List ℕ) : Type 0 where
  pub same : length now ≡ length old
  pub reached : (i : ℕ) → i < earlier → is_counted (plan_for ts) start i item ≡ true → slice_index now i ≡ item + 1
  pub others : (i : ℕ) → (slice_index now i ≡ slice_index old i) ⊎ (slice_index now i ≡ item + 1)

pub first_step : (ts : List Task) (start item : ℕ) (old : List ℕ) → Loop ts start item start old old
first_step ts start item old = record {
  same = refl;
  reached = λ i lt e.
      let le = leb-true start i (and_parts (nat_le start i) _ e).0 in absurd (omega (arith, lt, le));
  others = λ i. inl refl;
}

pub noted : (ts : List Task) (start item earlier : ℕ) (old now : List ℕ) → Loop ts start item earlier old now →
    earlier < length old → Loop ts start item (earlier + 1) old (slice_set now earlier (item + 1))
noted ts start item earlier old now h lt =
    record {
      same = length-set now earlier (item + 1) ∙ h.same;
      reached = λ i less e. reached i less e (cases_eq i earlier);
      others = λ i. others i (cases_eq i earlier);
    }
  where
    here : slice_index (slice_set now earlier (item + 1)) earlier ≡ item + 1
    here = get_or-set_same now earlier (item + 1) 0 (omega (arith, lt, h.same))

    kept : (i : ℕ) → (i ≡ earlier → ⊥) → slice_index (slice_set now earlier (item + 1)) i ≡ slice_index now i
    kept i ne = get_or-set_other now earlier i (item + 1) 0 ne

    reached : (i : ℕ) → i < earlier + 1 → is_counted (plan_for ts) start i item ≡ true → (i ≡ earlier) ⊎ (i ≡ earlier → ⊥) →
        slice_index (slice_set now earlier (item + 1)) i ≡ item + 1
    reached i less e (inl q) = ap (slice_index (slice_set now earlier (item + 1))) q ∙ here
    reached i less e (inr ne) = kept i ne ∙ h.reached i (omega (arith, less, ne)) e

    others : (i : ℕ) → (i ≡ earlier) ⊎ (i ≡ earlier → ⊥) →
        (slice_index (slice_set now earlier (item + 1)) i ≡ slice_index old i)
        ⊎ (slice_index (slice_set now earlier (item + 1)) i ≡ item + 1)
    others i (inl q) = inr (ap (slice_index (slice_set now earlier (item + 1))) q ∙ here)
    others i (inr ne) = elim (h.others i) [
      | inl e ↦ inl (kept i ne ∙ e)
      | inr e ↦ inr (kept i ne ∙ e)
    ]

pub skipped : (ts : List Task) (start item earlier : ℕ) (old now : List ℕ) → Loop ts start item earlier old now →
    precedes (plan_for ts) earlier item ≡ false → Loop ts start item (earlier + 1) old now
skipped ts start item earlier old now h free =
    record { same = h.same; reached = λ i less e. reached i less e (cases_eq i earlier); others = h.others }
  where
    reached : (i : ℕ) → i < earlier + 1 → is_counted (plan_for ts) start i item ≡ true → (i ≡ earlier) ⊎ (i ≡ earlier → ⊥) →
        slice_index now i ≡ item + 1
    reached i less e (inl q) =
        let yes_it = (and_parts (nat_le start i) _ e).1 in
        absurd (let bad : true ≡ false = sym yes_it ∙ ap (λ k. precedes (plan_for ts) k item) q ∙ free in cc)
    reached i less e (inr ne) = h.reached i (omega (arith, less, ne)) e

pub extended : (ts : List Task) (start item earlier : ℕ) (old now : List ℕ) → Loop ts start item earlier old now →
    item ≤ earlier → IsExtended (plan_for ts) start item old now
extended ts start item earlier old now h le = record {
  same = h.same;
  reached = λ i e.
      let lt = before (plan_for ts) i item (and_parts (nat_le start i) _ e).1 in
      h.reached i (omega (arith, lt, le)) e;
  others = h.others;
}

-- the ends of one item more
pub one_more : (p : Plan) (starts old new : List ℕ) (n : ℕ) → AreEndsTo p starts old n →
    IsExtended p (slice_index starts n) n old new → AreEndsTo p starts new (n + 1)
one_more p starts old new n h x =
    record {
      same = x.same ∙ h.same;
      small = λ i. elim (x.others i) [
        | inl e ↦ let le = h.small i in omega (arith, e, le)
        | inr e ↦ omega (arith, e)
      ];
      past = λ i j lt e. past i j lt e (cases_eq j n);
    }
  where
    past : (i j : ℕ) → j < n + 1 → is_counted p (slice_index starts j) i j ≡ true → (j ≡ n) ⊎ (j ≡ n → ⊥) →
        j < slice_index new i
    past i j lt e (inl q) =
        let end = x.reached i (ap (λ k. is_counted p (slice_index starts k) i k) (sym q) ∙ e) in omega (arith, end, q)
    past i j lt e (inr ne) = elim (x.others i) [
      | inl f ↦ let less = h.past i j (omega (arith, lt, ne)) e in omega (arith, f, less)
      | inr f ↦ omega (arith, f, lt)
    ]
