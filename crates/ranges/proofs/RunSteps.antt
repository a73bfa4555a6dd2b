-- The runs of the cells up to one, and what is next.
use Rattle.std.proofs.Common.{◌≡◌, ℕ, ◌+◌, ◌-◌, ◌<◌, ◌≤◌, Bool, true, false, List, [], ◌∷◌, ◌++◌, Some, None, sym, ◌∙◌, ap, ap₂, refl, subst, ⊎_elim, inl, inr, arith, eqb-true}
use Rattle.std.specs.Prelude.{◌≢◌, nat_le, nat_lt, ◌&&◌, ◌||◌, ◌==◌}
use Rattle.std.specs.List.{AllByRecursion}
use Rattle.std.proofs.lemmas.Bool.{false≢true, cases_lt, eqb-false, le-leb, ltb-true, ltb-false}
use Rattle.std.proofs.Math.Bool.{or-false, and-true, and-false}
use Rattle.std.proofs.lemmas.Bool.Decides.{nat_tests}
use Rattle.std.proofs.lemmas.List.Folds.{list_any-append}
use Rattle.base.specs.declared.item.Cell.{Cell}
use Rattle.bits.specs.Sets.{IsFirstAt, is_from}
use Rattle.ranges.specs.declared.run_list.Run.{Run}
use Rattle.ranges.specs.Reach.{cell_of}
use Rattle.ranges.specs.RunLists.{AreApart, AreRuns, AreRunsUpTo, EndsBefore, IsEndOfRun, end_of_run, is_earlier, is_in_run}

pub all_last : {X : Type 0} (P : X → Type 0) (xs : List X) (y : X) → AllByRecursion P xs → P y → AllByRecursion P (xs ++ y ∷ [])
all_last P [] y h p = (p, tt)
all_last P (x ∷ xs) y h p = (h.0, all_last P xs y h.1 p)

pub all_weaker : {X : Type 0} (P Q : X → Type 0) (xs : List X) → ((x : X) → P x → Q x) → AllByRecursion P xs → AllByRecursion Q xs
all_weaker P Q [] f h = tt
all_weaker P Q (x ∷ xs) f h = (f x h.0, all_weaker P Q xs f h.1)

apart_last : (runs : List Run) (s : Run) → AreApart runs → AllByRecursion (EndsBefore s.array.0 s.first) runs →
    AreApart (runs ++ s ∷ [])
apart_last [] s h e = (tt, tt)
apart_last (r ∷ runs) s h e =
    (all_last (λ t. EndsBefore t.array.0 t.first r) runs s h.0 e.0, apart_last runs s h.1 e.1)

-- the tests of a cell at i: before `from`, and in the run from `first` up to `after`
one_more : (p : Bool) (from first after i : ℕ) → from ≤ first → first < after → (i < first → from ≤ i → p ≡ false) →
    (first ≤ i → i < after → p ≡ true) →
    ((p && nat_lt i from) || is_from first after i) ≡ (p && nat_lt i after)
one_more true from first after i low some none all = ⊎_elim
    (λ (lt : i < first). ⊎_elim (λ (l : i < from). grind (arith, nat_tests))
    (λ (le : from ≤ i). absurd (false≢true (sym (none lt le)))) (cases_lt i from))
    (λ (le : first ≤ i). grind (arith, nat_tests))
    (cases_lt i first)
one_more false from first after i low some none all = ⊎_elim
    (λ (lt : i < first). grind (arith, nat_tests))
    (λ (le : first ≤ i). ⊎_elim (λ (l : i < after). absurd (false≢true (all le l)))
    (λ (ge : after ≤ i). grind (arith, nat_tests)) (cases_lt i after))
    (cases_lt i first)

none_first : (p : ℕ → Bool) (from first i : ℕ) → ((j : ℕ) → j < first → (nat_le from j && p j) ≡ false) → i < first → from ≤ i →
    p i ≡ false
none_first p from first i h lt le = ap (λ b. b && p i) (sym (le-leb from i le)) ∙ h i lt

module _ (p : Cell → Bool) (a from : ℕ) (runs : List Run) (h : AreRunsUpTo p a from runs) where
  abbrev here : ℕ → Bool
  here i = p (cell_of a i)

  -- one run more of the same array
  pub run_more : (first after : ℕ) (new : List Run) (r : Run) → r.array.0 ≡ a → r.first ≡ first → r.length ≡ after - first →
      IsFirstAt (λ i. nat_le from i && p (cell_of a i)) (Some first) → IsEndOfRun (λ i. p (cell_of a i)) first after →
      new ≡ runs ++ r ∷ [] → AreRunsUpTo p a after new
  run_more first after new r array_is first_is length_is begins ends new_is = subst (AreRunsUpTo p a after) (sym new_is) (record {
    some = all_last (λ s. 1 ≤ s.length) runs r h.some (let l = ends.some in omega (arith, l, length_is));
    apart = apart_last runs r h.apart behind;
    arrays = all_last (λ s. s.array.0 ≤ a) runs r h.arrays (omega (arith, array_is));
    next = λ i le here_is. all_last (EndsBefore a i) runs r (h.next i (let l = ends.some in let m = low in omega arith) here_is)
        (inr (array_is, beyond i le here_is));
    cells = λ c. list_any-append (is_in_run c) runs (r ∷ []) ∙ ap₂ (λ x y. x || y) (h.cells c) refl ∙ go c (c.array.0 == a) refl;
  })
    where
      found : (nat_le from first && here first) ≡ true
      found = begins.0

      low : from ≤ first
      low = grind (arith, nat_tests, found)

      is : here first ≡ true
      is = ap (λ b. b && here first) (sym (le-leb from first low)) ∙ found

      behind : AllByRecursion (EndsBefore r.array.0 r.first) runs
      behind = subst (λ n. AllByRecursion (EndsBefore n r.first) runs) (sym array_is)
          (subst (λ n. AllByRecursion (EndsBefore a n) runs) (sym first_is) (h.next first low is))

      end_is : end_of_run r ≡ after
      end_is = let l = ends.some in omega (arith, first_is, length_is, l)

      beyond : (i : ℕ) → after ≤ i → p (cell_of a i) ≡ true → end_of_run r < i
      beyond i le here_is = ⊎_elim (λ (lt : after < i). let e = end_is in omega arith)
          (λ (ge : i ≤ after). let e : i ≡ after = omega arith in
          absurd (false≢true (sym ends.behind ∙ ap here (sym e) ∙ here_is))) (cases_lt after i)

      in_array : (i : ℕ) → ((here i && nat_lt i from) || is_from first after i) ≡ (here i && nat_lt i after)
      in_array i = one_more (here i) from first after i low ends.some
          (λ lt le. none_first here from first i begins.1 lt le) (λ le lt. ends.inside i le lt)

      go : (c : Cell) (b : Bool) → (c.array.0 == a) ≡ b →
          ((p c && is_earlier a from c) || (is_in_run c r || false)) ≡ (p c && is_earlier a after c)
      go c true e =
          let same : c.array.0 ≡ a = eqb-true c.array.0 a e in
          let ends_at = end_is in
          let early : is_earlier a from c ≡ nat_lt c.index from = grind (arith, nat_tests, same) in
          let among : (is_in_run c r || false) ≡ is_from first after c.index =
          grind (arith, nat_tests, same, array_is, first_is, ends_at) in
          let late : is_earlier a after c ≡ nat_lt c.index after = grind (arith, nat_tests, same) in
          let this : p c ≡ here c.index = ap (λ n. p (cell_of n c.index)) same in
          ap₂ (λ x y. x || y) (ap₂ (λ x y. x && y) this early) among ∙ in_array c.index
          ∙ sym (ap₂ (λ x y. x && y) this late)
      go c false e =
          let other : c.array.0 ≢ a = eqb-false c.array.0 a e in
          let among : (is_in_run c r || false) ≡ false = grind (arith, nat_tests, other, array_is) in
          let same : is_earlier a from c ≡ is_earlier a after c = grind (arith, nat_tests, other) in
          ap₂ (λ x y. (p c && x) || y) same among ∙ or-false (p c && is_earlier a after c)

  -- no run more of the same array
  pub no_more : IsFirstAt (λ i. nat_le from i && p (cell_of a i)) None → AreRunsUpTo p (a + 1) 0 runs
  no_more none = record {
    some = h.some;
    apart = h.apart;
    arrays = all_weaker (λ r. r.array.0 ≤ a) (λ r. r.array.0 ≤ a + 1) runs (λ r le. omega (arith, le)) h.arrays;
    next = λ i le is. all_weaker (λ r. r.array.0 ≤ a) (EndsBefore (a + 1) i) runs (λ r le. inl (omega (arith, le))) h.arrays;
    cells = λ c. h.cells c ∙ cell c (c.array.0 == a) (nat_lt c.index from) refl refl;
  }
    where
      cell : (c : Cell) (b l : Bool) → (c.array.0 == a) ≡ b → nat_lt c.index from ≡ l →
          (p c && is_earlier a from c) ≡ (p c && is_earlier (a + 1) 0 c)
      cell c false l e f =
          let other : c.array.0 ≢ a = eqb-false c.array.0 a e in
          let same : is_earlier a from c ≡ is_earlier (a + 1) 0 c = grind (arith, nat_tests, other) in
          ap (λ x. p c && x) same
      cell c true true e f =
          let same : c.array.0 ≡ a = eqb-true c.array.0 a e in
          let lt : c.index < from = ltb-true c.index from f in
          let both : is_earlier a from c ≡ is_earlier (a + 1) 0 c = grind (arith, nat_tests, same, lt) in
          ap (λ x. p c && x) both
      cell c true false e f =
          let same : c.array.0 ≡ a = eqb-true c.array.0 a e in
          let le : from ≤ c.index = ltb-false c.index from f in
          let this : p c ≡ false =
          ap (λ n. p (cell_of n c.index)) same ∙ ap (λ b. b && here c.index) (sym (le-leb from c.index le)) ∙ none c.index in
          ap (λ x. x && is_earlier a from c) this ∙ sym (ap (λ x. x && is_earlier (a + 1) 0 c) this)

pub no_runs : (p : Cell → Bool) → AreRunsUpTo p 0 0 []
no_runs p = record {
  some = tt;
  apart = tt;
  arrays = tt;
  next = λ i le is. tt;
  cells = λ c.
      let none : is_earlier 0 0 c ≡ false = grind (arith, nat_tests) in
      sym (ap (λ x. p c && x) none ∙ and-false (p c));
}

-- all arrays with cells are done
pub all_runs : (p : Cell → Bool) (a : ℕ) (runs : List Run) → ((c : Cell) → a ≤ c.array.0 → p c ≡ false) →
    AreRunsUpTo p a 0 runs → AreRuns p runs
all_runs p a runs none h = record { some = h.some; apart = h.apart; cells = λ c. h.cells c ∙ cell c (nat_lt c.array.0 a) refl }
  where
    cell : (c : Cell) (b : Bool) → nat_lt c.array.0 a ≡ b → (p c && is_earlier a 0 c) ≡ p c
    cell c true e =
        let lt : c.array.0 < a = ltb-true c.array.0 a e in
        let early : is_earlier a 0 c ≡ true = grind (arith, nat_tests, lt) in
        ap (λ x. p c && x) early ∙ and-true (p c)
    cell c false e =
        let this = none c (ltb-false c.array.0 a e) in
        ap (λ x. x && is_earlier a 0 c) this ∙ sym this
