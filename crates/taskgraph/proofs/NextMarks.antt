-- The next marked item, by the counts of rows.
use Rattle.std.proofs.Common.{◌≡◌, ◌⊎◌, inl, inr, ℕ, ◌+◌, ◌*◌, ◌-◌, ◌<◌, ◌≤◌, Bool, true, false, List, [], ◌∷◌, Option, Some, None, length, min, refl, sym, ap, ◌∙◌, arith}
use Rattle.std.specs.Prelude.{slice_get, slice_index, is_some}
use Rattle.std.proofs.lemmas.Bool.{cases_lt}
use Rattle.std.proofs.lemmas.Option.{slice_get_past}
use Rattle.taskgraph.specs.Marks.{AreCounted, IsNext, is_marked, those_from}
use Rattle.taskgraph.proofs.FirstOf.{IsFirstOf, first_of, none_of}
use Rattle.taskgraph.proofs.Rows.{past}

-- the first of a range before which there is none
pub next_in : (marks : List Bool) (from s n : ℕ) (o : Option ℕ) → from ≤ s →
    ((j : ℕ) → from ≤ j → j < s → is_marked marks j ≡ false) →
    o ≡ slice_get (those_from (is_marked marks) s n) 0 → is_some o ≡ true → IsNext marks from o
next_in marks from s n None le before e some = absurd (cc some)
next_in marks from s n (Some i) le before e some =
    let f = first_of (is_marked marks) s n i (sym e) in
    (omega (arith, le, f.from), f.yes, λ j l lt. go j l lt f (cases_lt j s))
  where
    go : (j : ℕ) → from ≤ j → j < i → IsFirstOf (is_marked marks) s n i → (j < s) ⊎ (s ≤ j) → is_marked marks j ≡ false
    go j l lt f (inl less) = before j l less
    go j l lt f (inr more) = f.below j more lt

some_first : {A : Type 0} (xs : List A) → 1 ≤ length xs → is_some (slice_get xs 0) ≡ true
some_first [] le = absurd (omega arith)
some_first (x ∷ xs) le = refl

-- a row that is counted has one
pub next_in_row : (marks : List Bool) (counts : List ℕ) (len from r : ℕ) (o : Option ℕ) → AreCounted marks counts len →
    from ≤ 256 * r → ((j : ℕ) → from ≤ j → j < 256 * r → is_marked marks j ≡ false) → r < length counts →
    0 < slice_index counts r → o ≡ slice_get (those_from (is_marked marks) (256 * r) 256) 0 → IsNext marks from o
next_in_row marks counts len from r o h le before inside pos e =
    let l = those_from (is_marked marks) (256 * r) 256 in
    next_in marks from (256 * r) 256 o le before e
    (ap (λ (o : Option ℕ). is_some o) e ∙ some_first l (omega (arith, pos, h.each r inside)))

none_long : (l : List ℕ) → length l ≡ 0 → slice_get l 0 ≡ None
none_long l e = slice_get_past l 0 (omega (arith, e))

-- another row in which none is marked
pub none_in_row : (marks : List Bool) (counts : List ℕ) (len from r : ℕ) → AreCounted marks counts len →
    ((j : ℕ) → from ≤ j → j < 256 * r → is_marked marks j ≡ false) → r < length counts → slice_index counts r ≡ 0 →
    (j : ℕ) → from ≤ j → j < 256 * (r + 1) → is_marked marks j ≡ false
none_in_row marks counts len from r h before inside empty j le lt = go (cases_lt j (256 * r))
  where
    go : (j < 256 * r) ⊎ (256 * r ≤ j) → is_marked marks j ≡ false
    go (inl less) = before j le less
    go (inr more) =
        none_of (is_marked marks) (256 * r) 256 (none_long _ (sym (h.each r inside) ∙ empty)) j more (omega arith)

-- the rest of a row in which none is marked
pub none_to_end : (marks : List Bool) (s n end : ℕ) (o : Option ℕ) → end ≡ min n (length marks) →
    o ≡ slice_get (those_from (is_marked marks) s (end - s)) 0 → is_some o ≡ false →
    (j : ℕ) → s ≤ j → j < n → is_marked marks j ≡ false
none_to_end marks s n end (Some i) e is off j le lt = absurd (cc off)
none_to_end marks s n end None e is off j le lt = go (cases_lt j end)
  where
    go : (j < end) ⊎ (end ≤ j) → is_marked marks j ≡ false
    go (inl less) = none_of (is_marked marks) s (end - s) (sym is) j le (omega arith)
    go (inr more) = past marks j (omega arith)

-- where none is counted at all
pub none_counted : (marks : List Bool) (counts : List ℕ) (len : ℕ) → AreCounted marks counts len → len ≡ 0 → (j : ℕ) →
    is_marked marks j ≡ false
none_counted marks counts len h none j = go (cases_lt j (length marks))
  where
    go : (j < length marks) ⊎ (length marks ≤ j) → is_marked marks j ≡ false
    go (inl less) =
        none_of (is_marked marks) 0 (length marks) (none_long _ (sym h.all ∙ none)) j (omega arith) (omega (arith, less))
    go (inr more) = past marks j more
