-- The first conflict of an item, found by the other item.
use Rattle.std.proofs.Common.{◌≡◌, ℕ, ◌+◌, ◌<◌, ◌≤◌, Bool, true, false, refl, sym, ap, ◌∙◌, subst, ⊎_elim, Option, Some, None, arith}
use Rattle.std.specs.Prelude.{cond, is_some}
use Rattle.std.proofs.lemmas.Bool.{cases_eq}
use Rattle.std.proofs.lemmas.Bool.Decides.{nat_tests}
use Rattle.base.specs.declared.item.Cell.{Cell}
use Rattle.base.specs.declared.fault.Refusal.{Refusal}
use Rattle.base.specs.declared.fault.RefusalCode.{RefusalCode}
use Rattle.base.specs.declared.fault.RefusalCode.TheVariants.{Conflict}
use Rattle.base.specs.Items.{Plan}
use Rattle.base.specs.Accepted.{IsFault, IsRefusal, Refused, fault_key, key_less}
use Rattle.base.specs.Least.{is_less}
use Rattle.mapcheck.specs.Unordered.{IsConflictIn, IsConflictOf, IsFirstBelow, IsFirstConflict, IsFoundBelow, IsLeastUnordered, IsUnordered, NoConflictBelow, conflict_of, earlier}

-- an item with which there is no conflict
pub none_found : (plan : Plan) (i j : ℕ) (o : Option Refusal) → IsFoundBelow plan i j o →
    ((c : Cell) → IsUnordered plan i j c → ⊥) → IsFoundBelow plan (i + 1) j o
none_found plan i j None h none = λ k d lt u. ⊎_elim
    (λ (same : k ≡ i). none d (subst (λ m. IsUnordered plan m j d) same u))
    (λ (other : k ≡ i → ⊥). h k d (omega (arith, lt, other)) u) (cases_eq k i)
none_found plan i j (Some r) h none = record {
  other = h.other;
  below = omega (arith, h.below);
  is = h.is;
  holds = h.holds;
  least = λ k d lt u. ⊎_elim
      (λ (same : k ≡ i). absurd (none d (subst (λ m. IsUnordered plan m j d) same u)))
      (λ (other : k ≡ i → ⊥). h.least k d (omega (arith, lt, other)) u) (cases_eq k i);
  first = λ k d lt u e. ⊎_elim
      (λ (same : k ≡ i). absurd (none d (subst (λ m. IsUnordered plan m j d) same u)))
      (λ (other : k ≡ i → ⊥). h.first k d (omega (arith, lt, other)) u e) (cases_eq k i);
}

not_less_through : (d c e : Cell) → is_less d c ≡ false → is_less c e ≡ false → is_less d e ≡ false
not_less_through d c e p q = grind (arith, nat_tests)

not_less_below : (d e c : Cell) → is_less d e ≡ false → is_less c e ≡ true → is_less d c ≡ false
not_less_below d e c p q = grind (arith, nat_tests)

less_above : (d e c : Cell) → is_less d e ≡ false → is_less c e ≡ true → is_less c d ≡ true
less_above d e c p q = grind (arith, nat_tests)

-- a conflict on a cell that is not less
stays : (plan : Plan) (i j : ℕ) (r : Refusal) (c : Cell) → IsFirstBelow plan i j r →
    ((d : Cell) → IsUnordered plan i j d → is_less d c ≡ false) → is_less c r.cell ≡ false →
    IsFirstBelow plan (i + 1) j r
stays plan i j r c h least e = record {
  other = h.other;
  below = omega (arith, h.below);
  is = h.is;
  holds = h.holds;
  least = λ k d lt u. ⊎_elim
      (λ (same : k ≡ i). not_less_through d c r.cell (least d (subst (λ m. IsUnordered plan m j d) same u)) e)
      (λ (other : k ≡ i → ⊥). h.least k d (omega (arith, lt, other)) u) (cases_eq k i);
  first = λ k d lt u f. ⊎_elim (λ (same : k ≡ i). omega (arith, same, h.below))
      (λ (other : k ≡ i → ⊥). h.first k d (omega (arith, lt, other)) u f) (cases_eq k i);
}

-- a conflict on a lesser cell, or the first one
replaced : (plan : Plan) (i j : ℕ) (r : Refusal) (c : Cell) → IsFirstBelow plan i j r → IsUnordered plan i j c →
    ((d : Cell) → IsUnordered plan i j d → is_less d c ≡ false) → is_less c r.cell ≡ true →
    IsFirstBelow plan (i + 1) j (conflict_of j c i)
replaced plan i j r c h holds least e = record {
  other = i;
  below = omega arith;
  is = refl;
  holds = holds;
  least = λ k d lt u. ⊎_elim (λ (same : k ≡ i). least d (subst (λ m. IsUnordered plan m j d) same u))
      (λ (other : k ≡ i → ⊥). not_less_below d r.cell c (h.least k d (omega (arith, lt, other)) u) e) (cases_eq k i);
  first = λ k d lt u f. ⊎_elim (λ (same : k ≡ i). omega (arith, same))
      (λ (other : k ≡ i → ⊥).
      let bad : true ≡ false = sym (less_above d r.cell c (h.least k d (omega (arith, lt, other)) u) e) ∙ f in absurd cc)
      (cases_eq k i);
}

begun : (plan : Plan) (i j : ℕ) (c : Cell) → IsFoundBelow plan i j None → IsUnordered plan i j c →
    ((d : Cell) → IsUnordered plan i j d → is_less d c ≡ false) → IsFirstBelow plan (i + 1) j (conflict_of j c i)
begun plan i j c h holds least = record {
  other = i;
  below = omega arith;
  is = refl;
  holds = holds;
  least = λ k d lt u. ⊎_elim (λ (same : k ≡ i). least d (subst (λ m. IsUnordered plan m j d) same u))
      (λ (other : k ≡ i → ⊥). absurd (h k d (omega (arith, lt, other)) u)) (cases_eq k i);
  first = λ k d lt u f. ⊎_elim (λ (same : k ≡ i). omega (arith, same))
      (λ (other : k ≡ i → ⊥). absurd (h k d (omega (arith, lt, other)) u)) (cases_eq k i);
}

pub one_found : (plan : Plan) (i j : ℕ) (found : Option Refusal) (c : Cell) → IsFoundBelow plan i j found →
    IsLeastUnordered plan i j (Some c) → IsFirstBelow plan (i + 1) j (earlier found (conflict_of j c i))
one_found plan i j None c h k = begun plan i j c h k.0 k.1
one_found plan i j (Some r) c h k = go (is_less c r.cell) refl
  where
    go : (b : Bool) → is_less c r.cell ≡ b → IsFirstBelow plan (i + 1) j (cond b (conflict_of j c i) r)
    go true e = replaced plan i j r c h k.0 k.1 e
    go false e = stays plan i j r c h k.1 e

-- ---- all earlier items were looked at

key_later : (j k m : ℕ) (d c : Cell) → is_less d c ≡ false → (is_less c d ≡ false → m ≤ k) →
    key_less (fault_key (Refused (conflict_of j d k))) (fault_key (Refused (conflict_of j c m))) ≡ false
key_later j k m d c p q = go (is_less c d) refl
  where
    go : (b : Bool) → is_less c d ≡ b →
        key_less (fault_key (Refused (conflict_of j d k))) (fault_key (Refused (conflict_of j c m))) ≡ false
    go true e = grind (arith, nat_tests)
    go false e = let le : m ≤ k = q e in grind (arith, nat_tests)

abbrev refusal : RefusalCode → ℕ → Cell → Option ℕ → Refusal
refusal code item cell other = record { code = code; item = item; cell = cell; other = other }

is_conflict : (g : Refusal) (j k : ℕ) → g.code ≡ Conflict → g.item ≡ j → g.other ≡ Some k → g ≡ conflict_of j g.cell k
is_conflict g j k code item other =
    ap (λ x. refusal x g.item g.cell g.other) code
    ∙ ap (λ x. refusal Conflict x g.cell g.other) item
    ∙ ap (λ x. refusal Conflict j g.cell x) other

-- a refusal for a conflict names another item
other_of : (plan : Plan) (j : ℕ) (g : Refusal) (P : Refusal → Type 0) → g.code ≡ Conflict → g.item ≡ j →
    IsFault plan (Refused g) → ((k : ℕ) → IsUnordered plan k j g.cell → P (conflict_of j g.cell k)) → P g
other_of plan j g P code item holds f = go g.other refl
  where
    held : (o : Option ℕ) → g.other ≡ o → IsRefusal plan Conflict j g.cell o
    held o e = subst (λ (x : Option ℕ). IsRefusal plan Conflict j g.cell x) e
        (subst (λ m. IsRefusal plan Conflict m g.cell g.other) item
        (subst (λ (x : RefusalCode). IsRefusal plan x g.item g.cell g.other) code holds))

    go : (o : Option ℕ) → g.other ≡ o → P g
    go None e = absurd (held None e)
    go (Some k) e =
        subst P (sym (is_conflict g j k code item e)) (f k (held (Some k) e))

all_passed : (plan : Plan) (j : ℕ) → IsFoundBelow plan j j None → IsConflictOf plan j None
all_passed plan j h g code item holds = other_of plan j g (λ g. ⊥) code item holds (λ k u. h k g.cell u.0 u)

found_first : (plan : Plan) (j : ℕ) (r : Refusal) → IsFirstBelow plan j j r → IsFirstConflict plan j r
found_first plan j r h = subst (λ (x : Refusal). IsFirstConflict plan j x) (sym h.is) (record {
  code = refl;
  item = refl;
  holds = h.holds;
  first = λ g code item holds. other_of plan j g
      (λ g. key_less (fault_key (Refused g)) (fault_key (Refused (conflict_of j r.cell h.other))) ≡ false) code item holds
      (λ k u. key_later j k h.other g.cell r.cell (h.least k g.cell u.0 u) (h.first k g.cell u.0 u));
})

pub all_looked : (plan : Plan) (i j : ℕ) (o : Option Refusal) → i ≡ j → IsFoundBelow plan i j o → IsConflictOf plan j o
all_looked plan i j None e h = all_passed plan j (subst (λ m. IsFoundBelow plan m j None) e h)
all_looked plan i j (Some r) e h = found_first plan j r (subst (λ m. IsFoundBelow plan m j (Some r)) e h)

-- ---- of all items

-- one item more without a conflict
pub none_below_more : (plan : Plan) (n : ℕ) (o : Option Refusal) → NoConflictBelow plan n → IsConflictOf plan n o → o ≡ None →
    NoConflictBelow plan (n + 1)
none_below_more plan n o below h e j lt =
    ⊎_elim (λ (same : j ≡ n). subst (λ k. IsConflictOf plan k None) (sym same) (subst (IsConflictOf plan n) e h))
    (λ (other : j ≡ n → ⊥). below j (omega (arith, lt, other))) (cases_eq j n)

pub not_some : (o : Option Refusal) → is_some o ≡ false → o ≡ None
not_some None e = refl
not_some (Some r) e = absurd cc

-- the first item that has a conflict
pub first_with : (plan : Plan) (n i : ℕ) (o : Option Refusal) → NoConflictBelow plan i → i < n → is_some o ≡ true →
    IsConflictOf plan i o → IsConflictIn plan n o
first_with plan n i None below lt e h = absurd cc
first_with plan n i (Some r) below lt e h = record {
  inside = let same = h.item in omega (arith, same, lt);
  below = subst (NoConflictBelow plan) (sym h.item) below;
  first = subst (λ k. IsFirstConflict plan k r) (sym h.item) h;
}
