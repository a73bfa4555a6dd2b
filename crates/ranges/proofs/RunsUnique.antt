-- Two lists of maximal runs that have the same cells are one list.
use Rattle.std.proofs.Common.{◌≡◌, ◌<◌, ◌≤◌, Bool, true, false, List, [], ◌∷◌, sym, ◌∙◌, ap, ap₂, refl, ⊎_elim, inl, inr, arith}
use Rattle.std.specs.Prelude.{◌||◌, ◌⊎◌}
use Rattle.std.specs.List.{AllByRecursion, list_any}
use Rattle.std.proofs.lemmas.Bool.{false≢true, cases_lt}
use Rattle.std.proofs.lemmas.Bool.Decides.{nat_tests}
use Rattle.base.specs.declared.item.Cell.{Cell}
use Rattle.ranges.specs.declared.run_list.Run.{Run}
use Rattle.ranges.specs.Reach.{cell_of}
use Rattle.ranges.specs.RunLists.{AreApart, AreRuns, EndsBefore, end_of_run, is_in_run}

-- the cell is in no run that the first one ends before
abbrev pub IsUpTo : Run → Cell → Type 0
IsUpTo r c = (c.array.0 < r.array.0) ⊎ ((c.array.0 ≡ r.array.0) × (c.index ≤ end_of_run r))

not_in_next : (r s : Run) (c : Cell) → IsUpTo r c → EndsBefore s.array.0 s.first r → is_in_run c s ≡ false
not_in_next r s c up ends = ⊎_elim
    (λ (lt : c.array.0 < r.array.0). ⊎_elim (λ (l : r.array.0 < s.array.0). grind (arith, nat_tests))
    (λ (e : (r.array.0 ≡ s.array.0) × (end_of_run r < s.first)). let same = e.0 in grind (arith, nat_tests)) ends)
    (λ (u : (c.array.0 ≡ r.array.0) × (c.index ≤ end_of_run r)).
    let at = u.0 in
    let le = u.1 in
    ⊎_elim (λ (l : r.array.0 < s.array.0). grind (arith, nat_tests))
    (λ (e : (r.array.0 ≡ s.array.0) × (end_of_run r < s.first)).
    let same = e.0 in let after = e.1 in grind (arith, nat_tests)) ends)
    up

pub not_in_rest : (r : Run) (rest : List Run) (c : Cell) → IsUpTo r c → AllByRecursion (λ s. EndsBefore s.array.0 s.first r) rest →
    list_any (is_in_run c) rest ≡ false
not_in_rest r [] c up h = refl
not_in_rest r (s ∷ rest) c up h = ap₂ (λ x y. x || y) (not_in_next r s c up h.0) (not_in_rest r rest c up h.1)

pub first_in : (r : Run) → 1 ≤ r.length → is_in_run (cell_of r.array.0 r.first) r ≡ true
first_in r some = grind (arith, nat_tests)

-- before the first run there is no cell
pub none_before : (s : Run) (rest : List Run) (c : Cell) → AreApart (s ∷ rest) →
    (c.array.0 < s.array.0) ⊎ ((c.array.0 ≡ s.array.0) × (c.index < s.first)) → list_any (is_in_run c) (s ∷ rest) ≡ false
none_before s rest c apart before = ⊎_elim
    (λ (lt : c.array.0 < s.array.0).
    let out : is_in_run c s ≡ false = grind (arith, nat_tests) in
    ap₂ (λ x y. x || y) out (not_in_rest s rest c (inl lt) apart.0))
    (λ (u : (c.array.0 ≡ s.array.0) × (c.index < s.first)).
    let lt = u.1 in
    let out : is_in_run c s ≡ false = grind (arith, nat_tests) in
    ap₂ (λ x y. x || y) out (not_in_rest s rest c (inr (u.0, omega (arith, lt))) apart.0))
    before

-- the cell behind the first run is in no run
pub none_behind : (r : Run) (rest : List Run) → AreApart (r ∷ rest) →
    list_any (is_in_run (cell_of r.array.0 (end_of_run r))) (r ∷ rest) ≡ false
none_behind r rest apart =
    let out : is_in_run (cell_of r.array.0 (end_of_run r)) r ≡ false = grind (arith, nat_tests) in
    ap₂ (λ x y. x || y) out (not_in_rest r rest (cell_of r.array.0 (end_of_run r)) (inr (refl, omega arith)) apart.0)

abbrev pub HaveSame : List Run → List Run → Type 0
HaveSame xs ys = (c : Cell) → list_any (is_in_run c) xs ≡ list_any (is_in_run c) ys

module _ (r s : Run) (rs ss : List Run) (some : 1 ≤ r.length) (apart : AreApart (r ∷ rs)) (apart' : AreApart (s ∷ ss))
    (same : HaveSame (r ∷ rs) (s ∷ ss)) where
  -- it does not begin before the other
  not_earlier : (r.array.0 < s.array.0) ⊎ ((r.array.0 ≡ s.array.0) × (r.first < s.first)) → ⊥
  not_earlier before =
      let c = cell_of r.array.0 r.first in
      let here : list_any (is_in_run c) (r ∷ rs) ≡ true = ap (λ x. x || list_any (is_in_run c) rs) (first_in r some) in
      false≢true (sym (none_before s ss c apart' before) ∙ sym (same c) ∙ here)

  -- it does not end before the other, where both begin at one cell
  not_shorter : r.array.0 ≡ s.array.0 → r.first ≡ s.first → end_of_run r < end_of_run s → ⊥
  not_shorter array first lt =
      let c = cell_of r.array.0 (end_of_run r) in
      let inside : is_in_run c s ≡ true = grind (arith, nat_tests) in
      let there : list_any (is_in_run c) (s ∷ ss) ≡ true = ap (λ x. x || list_any (is_in_run c) ss) inside in
      false≢true (sym (none_behind r rs apart) ∙ same c ∙ there)

same_first : (r s : Run) (rs ss : List Run) → 1 ≤ r.length → 1 ≤ s.length → AreApart (r ∷ rs) → AreApart (s ∷ ss) →
    HaveSame (r ∷ rs) (s ∷ ss) → r ≡ s
same_first r s rs ss some some' apart apart' same =
    λ i. record { array = record { 0 = arrays i }; first = firsts i; length = lengths i }
  where
    back : HaveSame (s ∷ ss) (r ∷ rs)
    back c = sym (same c)

    arrays : r.array.0 ≡ s.array.0
    arrays = ⊎_elim (λ (lt : r.array.0 < s.array.0). absurd (not_earlier r s rs ss some apart apart' same (inl lt)))
        (λ (le : s.array.0 ≤ r.array.0).
        ⊎_elim (λ (lt : s.array.0 < r.array.0). absurd (not_earlier s r ss rs some' apart' apart back (inl lt)))
        (λ (ge : r.array.0 ≤ s.array.0). omega arith) (cases_lt s.array.0 r.array.0))
        (cases_lt r.array.0 s.array.0)

    firsts : r.first ≡ s.first
    firsts = ⊎_elim (λ (lt : r.first < s.first). absurd (not_earlier r s rs ss some apart apart' same (inr (arrays, lt))))
        (λ (le : s.first ≤ r.first).
        ⊎_elim (λ (lt : s.first < r.first). absurd (not_earlier s r ss rs some' apart' apart back (inr (sym arrays, lt))))
        (λ (ge : r.first ≤ s.first). omega arith) (cases_lt s.first r.first))
        (cases_lt r.first s.first)

    lengths : r.length ≡ s.length
    lengths =
        let begins = firsts in
        ⊎_elim (λ (lt : end_of_run r < end_of_run s). absurd (not_shorter r s rs ss some apart apart' same arrays begins lt))
        (λ (le : end_of_run s ≤ end_of_run r).
        ⊎_elim
        (λ (lt : end_of_run s < end_of_run r).
        absurd (not_shorter s r ss rs some' apart' apart back (sym arrays) (sym begins) lt))
        (λ (ge : end_of_run r ≤ end_of_run s). omega arith) (cases_lt (end_of_run s) (end_of_run r)))
        (cases_lt (end_of_run r) (end_of_run s))

-- what is left of both has the same cells
same_rest : (r s : Run) (rs ss : List Run) → r ≡ s → AreApart (r ∷ rs) → AreApart (s ∷ ss) → HaveSame (r ∷ rs) (s ∷ ss) →
    HaveSame rs ss
same_rest r s rs ss one apart apart' same c = go (is_in_run c r) refl
  where
    up_to : (t : Run) → is_in_run c t ≡ true → IsUpTo t c
    up_to t e =
        let array : c.array.0 ≡ t.array.0 = grind (arith, nat_tests, e) in
        let below : c.index ≤ end_of_run t = grind (arith, nat_tests, e) in
        inr (array, below)

    go : (b : Bool) → is_in_run c r ≡ b → list_any (is_in_run c) rs ≡ list_any (is_in_run c) ss
    go true e = not_in_rest r rs c (up_to r e) apart.0
        ∙ sym (not_in_rest s ss c (up_to s (ap (is_in_run c) (sym one) ∙ e)) apart'.0)
    go false e =
        sym (ap (λ x. x || list_any (is_in_run c) rs) e) ∙ same c
        ∙ ap (λ x. x || list_any (is_in_run c) ss) (ap (is_in_run c) (sym one) ∙ e)

unique : (xs ys : List Run) → AllByRecursion (λ r. 1 ≤ r.length) xs → AllByRecursion (λ r. 1 ≤ r.length) ys → AreApart xs →
    AreApart ys → HaveSame xs ys → xs ≡ ys
unique [] [] h h' a a' same = refl
unique [] (s ∷ ys) h h' a a' same =
    let c = cell_of s.array.0 s.first in
    absurd (false≢true (same c ∙ ap (λ x. x || list_any (is_in_run c) ys) (first_in s h'.0)))
unique (r ∷ xs) [] h h' a a' same =
    let c = cell_of r.array.0 r.first in
    absurd (false≢true (sym (same c) ∙ ap (λ x. x || list_any (is_in_run c) xs) (first_in r h.0)))
unique (r ∷ xs) (s ∷ ys) h h' a a' same =
    let one = same_first r s xs ys h.0 h'.0 a a' same in
    ap₂ (λ (t : Run) (ts : List Run). t ∷ ts) one
    (unique xs ys h.1 h'.1 a.1 a'.1 (same_rest r s xs ys one a a' same))

pub one_list : (p : Cell → Bool) (xs ys : List Run) → AreRuns p xs → AreRuns p ys → xs ≡ ys
one_list p xs ys h h' = unique xs ys h.some h'.some h.apart h'.apart (λ c. h.cells c ∙ sym (h'.cells c))
