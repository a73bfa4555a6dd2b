-- Which cells rows have, and rows that are laid over others.
use Rattle.std.proofs.Common.{◌≡◌, ℕ, zero, suc, ◌+◌, ◌-◌, ◌<◌, ◌≤◌, Bool, true, false, List, [], ◌∷◌, ◌++◌, length, Option, Some, None, refl, sym, ap, ap₂, ◌∙◌, subst, arith}
use Rattle.std.specs.Prelude.{◌&&◌, is_some, nat_le, nat_lt, slice_get}
use Rattle.std.proofs.lemmas.Bool.{false≢true, and_from, and_parts, leb-true, ltb-true}
use Rattle.std.proofs.lemmas.Bool.Decides.{nat_tests}
use Rattle.base.specs.Rows.{at_index, if_marked}
use Rattle.kernel.specs.Laid.{AlikeBy, AreLaid, HaveSame, IsAlike, IsLaid, LaidBy, cell_in, or_else}
use Rattle.kernel.specs.Rows.{Parts, stored_at}

has_place : (xs : List ℕ) (k : ℕ) → is_some (slice_get xs k) ≡ nat_lt k (length xs)
has_place [] k = grind (arith, nat_tests)
has_place (x ∷ xs) zero = grind (arith, nat_tests)
has_place (x ∷ xs) (suc k) = has_place xs k ∙ next (length xs)
  where
    next : (n : ℕ) → nat_lt k n ≡ nat_lt (suc k) (suc n)
    next n = grind (arith, nat_tests)

abbrev is_within : ℕ → ℕ → ℕ → Bool
is_within first n i = nat_le first i && nat_lt (i - first) n

-- the indices of a row's cells
extent : (first : ℕ) (xs : List ℕ) (i : ℕ) → is_some (at_index first xs i) ≡ is_within first (length xs) i
extent first xs i = go (nat_le first i)
  where
    go : (b : Bool) → is_some (elim b as (λ z. Option ℕ) [ true ↦ slice_get xs (i - first) | false ↦ None ])
        ≡ (b && nat_lt (i - first) (length xs))
    go true = has_place xs (i - first)
    go false = refl

within_from : (first n i : ℕ) → first ≤ i → i - first < n → is_within first n i ≡ true
within_from first n i h j = grind (arith, nat_tests)

within_to : (first n i : ℕ) → is_within first n i ≡ true → (first ≤ i) × (i - first < n)
within_to first n i h =
    let p = and_parts (nat_le first i) (nat_lt (i - first) n) h in
    (leb-true first i p.0, ltb-true (i - first) n p.1)

-- rows with cells at the same indices
same_extent : (row over : Parts) →
    ((i : ℕ) → is_some (at_index row.0 row.1 i) ≡ is_some (at_index over.0 over.1 i)) → IsAlike row over
same_extent row over h some =
    let here = within_to row.0 (length row.1) over.0 (into over.0 (within_from over.0 (length over.1) over.0 (omega arith) (omega arith))) in
    let there = within_to over.0 (length over.1) row.0 (back row.0 (within_from row.0 (length row.1) row.0 (omega arith) (omega arith))) in
    let first : over.0 ≡ row.0 = omega arith in
    let last = over.0 + (length over.1 - 1) in
    let mine = row.0 + (length row.1 - 1) in
    let one = within_to row.0 (length row.1) last (into last (within_from over.0 (length over.1) last (omega arith) (omega arith))) in
    let two = within_to over.0 (length over.1) mine (back mine (within_from row.0 (length row.1) mine (omega arith) (omega arith))) in
    (first, omega arith)
  where
    into : (i : ℕ) → is_within over.0 (length over.1) i ≡ true → is_within row.0 (length row.1) i ≡ true
    into i e = sym (extent row.0 row.1 i) ∙ h i ∙ extent over.0 over.1 i ∙ e

    back : (i : ℕ) → is_within row.0 (length row.1) i ≡ true → is_within over.0 (length over.1) i ≡ true
    back i e = sym (extent over.0 over.1 i) ∙ sym (h i) ∙ extent row.0 row.1 i ∙ e

abbrev pub left_in : Option Parts → ℕ → Option ℕ
left_in o i = elim o as (λ z. Option ℕ) [ None ↦ None | Some r ↦ stored_at r i ]

pub alike_by : (o : Option Parts) (row : Parts) →
    ((i : ℕ) → is_some (at_index row.0 row.1 i) ≡ is_some (cell_in o i)) → AlikeBy o row
alike_by None row h = tt
alike_by (Some over) row h = same_extent row over h

-- where no cell is, nothing was stored
not_there : (r : Parts) (i : ℕ) → is_some (at_index r.0 r.1 i) ≡ false → stored_at r i ≡ None
not_there r i h = go (at_index r.0 r.1 i) h
  where
    none : (o : Option Bool) → if_marked o None ≡ None
    none None = refl
    none (Some false) = refl
    none (Some true) = refl

    go : (o : Option ℕ) → is_some o ≡ false → if_marked (at_index r.0 r.2 i) o ≡ None
    go None e = none (at_index r.0 r.2 i)
    go (Some v) e = absurd (false≢true (sym e))

nothing_left : (o : Option Parts) (i : ℕ) → is_some (cell_in o i) ≡ false → left_in o i ≡ None
nothing_left None i h = refl
nothing_left (Some r) i h = not_there r i h

or_none : (o : Option ℕ) → o ≡ None → None ≡ or_else o None
or_none o h = ap (λ p. or_else p None) (sym h)

pub laid_left : (rows over now : List Parts) → AreLaid rows over now → HaveSame rows over → (a i : ℕ) →
    left_in (slice_get now a) i ≡ or_else (left_in (slice_get over a) i) (left_in (slice_get rows a) i)
laid_left [] over now is h a i =
    ap (λ (rs : List Parts). left_in (slice_get rs a) i) is
    ∙ or_none (left_in (slice_get over a) i) (nothing_left (slice_get over a) i (sym (h a i)))
laid_left (r ∷ rows) over [] is h a i = absurd is
laid_left (r ∷ rows) [] (n ∷ now) is h zero i = ap (λ (p : Parts). stored_at p i) is.0
laid_left (r ∷ rows) [] (n ∷ now) is h (suc a) i = laid_left rows [] now is.1 (λ a i. h (suc a) i) a i
laid_left (r ∷ rows) (o ∷ over) (n ∷ now) is h zero i = is.0.stored i
laid_left (r ∷ rows) (o ∷ over) (n ∷ now) is h (suc a) i = laid_left rows over now is.1 (λ a i. h (suc a) i) a i

pub laid_there : (rows over now : List Parts) → AreLaid rows over now → (a i : ℕ) →
    is_some (cell_in (slice_get now a) i) ≡ is_some (cell_in (slice_get rows a) i)
laid_there [] over now is a i = ap (λ (rs : List Parts). is_some (cell_in (slice_get rs a) i)) is
laid_there (r ∷ rows) over [] is a i = absurd is
laid_there (r ∷ rows) [] (n ∷ now) is zero i = ap (λ (p : Parts). is_some (at_index p.0 p.1 i)) is.0
laid_there (r ∷ rows) [] (n ∷ now) is (suc a) i = laid_there rows [] now is.1 a i
laid_there (r ∷ rows) (o ∷ over) (n ∷ now) is zero i =
    extent n.0 n.1 i ∙ ap₂ (λ f m. is_within f m i) is.0.first is.0.size ∙ sym (extent r.0 r.1 i)
laid_there (r ∷ rows) (o ∷ over) (n ∷ now) is (suc a) i = laid_there rows over now is.1 a i

-- one row more
pub laid_more : (rows over now : List Parts) (r n : Parts) → AreLaid rows over now →
    LaidBy (slice_get over (length rows)) r n → AreLaid (rows ++ r ∷ []) over (now ++ n ∷ [])
laid_more [] [] now r n is h = subst (λ (ns : List Parts). AreLaid (r ∷ []) [] (ns ++ n ∷ [])) (sym is) (h, refl)
laid_more [] (o ∷ over) now r n is h =
    subst (λ (ns : List Parts). AreLaid (r ∷ []) (o ∷ over) (ns ++ n ∷ [])) (sym is) (h, refl)
laid_more (x ∷ rows) over [] r n is h = absurd is
laid_more (x ∷ rows) [] (y ∷ now) r n is h = (is.0, laid_more rows [] now r n is.1 h)
laid_more (x ∷ rows) (o ∷ over) (y ∷ now) r n is h = (is.0, laid_more rows over now r n is.1 h)

pub laid_length : (rows over now : List Parts) → AreLaid rows over now → length now ≡ length rows
laid_length [] over now is = ap (λ (ns : List Parts). length ns) is
laid_length (x ∷ rows) over [] is = absurd is
laid_length (x ∷ rows) [] (n ∷ now) is = ap suc (laid_length rows [] now is.1)
laid_length (x ∷ rows) (o ∷ over) (n ∷ now) is = ap suc (laid_length rows over now is.1)

get_next : (before : List Parts) (x : Parts) (rest : List Parts) →
    slice_get (before ++ x ∷ rest) (length before) ≡ Some x
get_next [] x rest = refl
get_next (y ∷ before) x rest = get_next before x rest

-- the next row
pub alike_next : (all over before : List Parts) (x : Parts) (rest : List Parts) (k : ℕ) → before ++ x ∷ rest ≡ all →
    k ≡ length before → HaveSame all over → AlikeBy (slice_get over k) x
alike_next all over before x rest k is at h =
    alike_by (slice_get over k) x
    (λ i. sym (ap (λ (o : Option Parts). is_some (cell_in o i))
    (ap₂ (λ (rs : List Parts) (j : ℕ). slice_get rs j) (sym is) at ∙ get_next before x rest)) ∙ h k i)
