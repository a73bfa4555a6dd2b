-- What was stored in a row is laid over another one.
use Rattle.std.proofs.Common.{◌≡◌, ℕ, zero, suc, ◌+◌, ◌-◌, ◌<◌, ◌≤◌, Bool, true, false, List, [], ◌∷◌, ◌++◌, length, drop, take, Option, Some, None, refl, sym, ap, ap₂, ◌∙◌, subst, arith, length-drop, length-take-le, if◌then◌else◌, ⊎_elim}
use Rattle.std.specs.Prelude.{◌&&◌, nat_le, nat_lt, replicate, slice_get, slice_index, slice_index_or, slice_range}
use Rattle.std.proofs.lemmas.Bool.{and_parts, ltb-true, ltb-false, leb-true, cases_lt}
use Rattle.std.proofs.lemmas.Bool.Decides.{nat_tests}
use Rattle.std.proofs.lemmas.List.{length-replicate, nil_from_length, replicate-append-replicate}
use Rattle.std.proofs.lemmas.Option.{slice_get-get_or}
use Rattle.base.proofs.Places.{get_left}
use Rattle.base.specs.Rows.{at_index, if_marked}
use Rattle.shared_row.specs.declared.marks.Marks.{Marks}
use Rattle.shared_row.specs.declared.marks.Marks.TheVariants as kinds
use Rattle.kernel.specs.Laid.{IsAlike, IsLaid, or_else}
use Rattle.kernel.specs.Lanes.{HasPut, Over, all_of}
use Rattle.kernel.specs.Rows.{HaveMarks, Parts, run_parts, stored_at}
use Rattle.kernel.proofs.FreshRows.{no_mark}
use Rattle.kernel.proofs.OverParts.{over_middle}
use Rattle.kernel.proofs.OwnCells.{all_own, marks_of_all, row_parts, some_marks}

-- what was stored at a place
abbrev mark_at : Parts → ℕ → Option ℕ
mark_at p k = if_marked (slice_get p.2 k) (slice_get p.1 k)

abbrev at_place : Bool → Option ℕ → Option ℕ
at_place b o = elim b [ true ↦ o | false ↦ None ]

stored_is : (p : Parts) (i : ℕ) → stored_at p i ≡ at_place (nat_le p.0 i) (mark_at p (i - p.0))
stored_is p i = go (nat_le p.0 i)
  where
    go : (b : Bool) →
        if_marked (elim b as (λ z. Option Bool) [ true ↦ slice_get p.2 (i - p.0) | false ↦ None ])
        (elim b as (λ z. Option ℕ) [ true ↦ slice_get p.1 (i - p.0) | false ↦ None ])
        ≡ at_place b (mark_at p (i - p.0))
    go true = refl
    go false = refl

none_there : (o : Option Bool) → if_marked o None ≡ None
none_there None = refl
none_there (Some false) = refl
none_there (Some true) = refl

no_cells : (p : Parts) (k : ℕ) → length p.1 ≡ 0 → mark_at p k ≡ None
no_cells p k h = ap (λ xs. if_marked (slice_get p.2 k) (slice_get xs k)) (nil_from_length p.1 h) ∙ none_there (slice_get p.2 k)

get_none : (xs : List ℕ) (k : ℕ) → length xs ≤ k → slice_get xs k ≡ None
get_none [] k h = refl
get_none (x ∷ xs) zero h = absurd (omega arith)
get_none (x ∷ xs) (suc k) h = get_none xs k (omega arith)

-- whether a place is one of n from another one on, and takes part
abbrev is_put : (ℕ → Bool) → ℕ → ℕ → ℕ → Bool
is_put part at n k = part (k - at) && (nat_le at k && nat_lt k (at + n))

module _ (row over now : Parts) (alike : IsAlike row over) (first : now.0 ≡ row.0) (size : length now.1 ≡ length row.1)
    (laid : (k : ℕ) → mark_at now k ≡ or_else (mark_at over k) (mark_at row k)) where
  nothing_there : length over.1 ≡ 0 → (i : ℕ) → stored_at over i ≡ None
  nothing_there h i = stored_is over i ∙ go (nat_le over.0 i)
    where
      go : (b : Bool) → at_place b (mark_at over (i - over.0)) ≡ None
      go true = no_cells over (i - over.0) h
      go false = refl

  at_first : (i : ℕ) → stored_at now i ≡ at_place (nat_le row.0 i) (mark_at now (i - row.0))
  at_first i = stored_is now i ∙ ap (λ f. at_place (nat_le f i) (mark_at now (i - f))) first

  pub is_laid : IsLaid row over now
  is_laid = record { first = first; size = size; stored = λ i. ⊎_elim (some i) (none i) (cases_lt 0 (length over.1)) }
    where
      some : (i : ℕ) → 0 < length over.1 → stored_at now i ≡ or_else (stored_at over i) (stored_at row i)
      some i h =
          at_first i ∙ go (nat_le row.0 i)
          ∙ sym (ap₂ or_else (stored_is over i ∙ ap (λ f. at_place (nat_le f i) (mark_at over (i - f))) (alike h).0)
          (stored_is row i))
        where
          go : (b : Bool) → at_place b (mark_at now (i - row.0))
              ≡ or_else (at_place b (mark_at over (i - row.0))) (at_place b (mark_at row (i - row.0)))
          go true = laid (i - row.0)
          go false = refl

      none : (i : ℕ) → length over.1 ≤ 0 → stored_at now i ≡ or_else (stored_at over i) (stored_at row i)
      none i h =
          let empty : length over.1 ≡ 0 = omega arith in
          at_first i ∙ go empty (nat_le row.0 i)
          ∙ sym (ap₂ or_else (nothing_there empty i) (stored_is row i))
        where
          go : length over.1 ≡ 0 → (b : Bool) →
              at_place b (mark_at now (i - row.0)) ≡ at_place b (mark_at row (i - row.0))
          go empty true =
              laid (i - row.0) ∙ ap (λ o. or_else o (mark_at row (i - row.0))) (no_cells over (i - row.0) empty)
          go empty false = refl

-- numbers that were put are those that were stored in the other row
module _ (row over now : Parts) (part : ℕ → Bool) (at : ℕ) (numbers : List ℕ) (alike : IsAlike row over)
    (put : HasPut part at numbers row now)
    (is : (k : ℕ) → mark_at over k
    ≡ (if is_put part at (length numbers) k then Some (slice_index numbers (k - at)) else None)) where
  put_at : (k : ℕ) → mark_at now k ≡ or_else (mark_at over k) (mark_at row k)
  put_at k =
      ap₂ if_marked (put.marks.each k) (put.cells.each k) ∙ go (is_put part at (length numbers) k)
      ∙ ap (λ o. or_else o (mark_at row k)) (sym (is k))
    where
      go : (b : Bool) →
          if_marked (if b then Some true else slice_get row.2 k)
          (if b then Some (slice_index numbers (k - at)) else slice_get row.1 k)
          ≡ or_else (if b then Some (slice_index numbers (k - at)) else None) (mark_at row k)
      go true = refl
      go false = refl

  pub put_laid : IsLaid row over now
  put_laid = is_laid row over now alike put.first put.cells.size put_at

-- a row in which nothing was stored
pub nothing_laid : (row over : Parts) → IsAlike row over → ((k : ℕ) → mark_at over k ≡ None) → IsLaid row over row
nothing_laid row over alike none =
    is_laid row over row alike refl refl (λ k. ap (λ o. or_else o (mark_at row k)) (sym (none k)))

-- the marks of a run
run_marked : (n first end k : ℕ) → first ≤ end → end ≤ n → slice_get (some_marks n first end) k
    ≡ (if is_put all_of first (end - first) k then Some true else slice_get (replicate n false) k)
run_marked n first end k h j =
    let m = end - first in
    let parts : replicate n false ≡ replicate first false ++ (replicate m false ++ replicate (n - end) false) =
    sym (ap (λ bs. replicate first false ++ bs) (replicate-append-replicate m (n - end) false)
    ∙ replicate-append-replicate first (m + (n - end)) false ∙ ap (λ k. replicate k false) (omega arith)) in
    (subst (λ (bs : List Bool). Over Bool all_of (λ k. true) first m bs (some_marks n first end)) (sym parts)
    (over_middle Bool (λ k. true) first m (replicate first false) (replicate m false) (replicate m true)
    (replicate (n - end) false) (length-replicate first false) (length-replicate m false) (length-replicate m true)
    (λ k h. slice_get-get_or (replicate m true) k false (simp length-replicate h) ∙ ap Some (all_true m k h)))).each k
  where
    all_true : (m k : ℕ) → k < m → slice_index_or (replicate m true) k false ≡ true
    all_true zero k h = absurd (omega arith)
    all_true (suc m) zero h = refl
    all_true (suc m) (suc k) h = all_true m k (omega arith)

module _ (first : ℕ) (lent own : List ℕ) (over : Parts) where
  -- where the run's own cells are stored from a place on
  pub of_run : (from end : ℕ) (numbers : List ℕ) → HaveMarks lent own (kinds.Run from end) →
      run_parts first lent own (kinds.Run from end) ≡ over → length numbers ≡ end - from →
      ((j : ℕ) → j < end - from → slice_get own (from + j) ≡ Some (slice_index numbers j)) → (k : ℕ) →
      mark_at over k ≡ (if is_put all_of from (length numbers) k then Some (slice_index numbers (k - from)) else None)
  of_run from end numbers have is count each k =
      ap (λ (p : Parts). mark_at p k) (sym is)
      ∙ ap (λ ms. if_marked (slice_get ms k) (slice_get cells k))
      (marks_of_all from end (length own) (length lent) have.1.0 have.1.1)
      ∙ ap (λ o. if_marked o (slice_get cells k))
      (run_marked (length lent) from end k have.0 (omega (arith, have.1.0, have.1.1)))
      ∙ go (is_put all_of from (end - from) k) refl
      ∙ ap (λ n. if is_put all_of from n k then Some (slice_index numbers (k - from)) else None) (sym count)
    where
      cells : List ℕ
      cells = own ++ drop (length own) lent

      go : (b : Bool) → is_put all_of from (end - from) k ≡ b →
          if_marked (if b then Some true else slice_get (replicate (length lent) false) k) (slice_get cells k)
          ≡ (if b then Some (slice_index numbers (k - from)) else None)
      go false e = no_mark (length lent) k (slice_get cells k)
      go true e =
          let p = and_parts (nat_le from k) (nat_lt k (from + (end - from))) e in
          let ge : from ≤ k = leb-true from k p.0 in
          let lt : k < from + (end - from) = ltb-true k (from + (end - from)) p.1 in
          let place : k ≡ from + (k - from) = omega arith in
          get_left own (drop (length own) lent) k (omega (arith, have.0, have.1.0))
          ∙ ap (slice_get own) place ∙ each (k - from) (omega arith)

  -- and where nothing is
  pub of_none : (from end : ℕ) → HaveMarks lent own (kinds.Run from end) →
      run_parts first lent own (kinds.Run from end) ≡ over → end ≤ from → (k : ℕ) → mark_at over k ≡ None
  of_none from end have is le k =
      of_run from end [] have is (omega (arith, have.0)) (λ j h. absurd (omega (arith, have.0))) k
      ∙ ap (λ b. if b then Some (slice_index [] (k - from)) else None) (outside from k)
    where
      outside : (at k : ℕ) → is_put all_of at 0 k ≡ false
      outside at k = grind (arith, nat_tests)

  -- where each cell says whether it is stored
  pub of_each : (marks : List Bool) → length marks ≡ length own → length own ≡ length lent →
      (first, own, marks) ≡ over → (k : ℕ) → mark_at over k
      ≡ (if is_put (λ j. slice_index_or marks j false) 0 (length own) k then Some (slice_index own (k - 0)) else None)
  of_each marks count whole is k =
      ap (λ (p : Parts). mark_at p k) (sym is) ∙ within (nat_lt k (length own)) refl
    where
      test : (q : Bool) → nat_lt k (length own) ≡ q →
          (if is_put (λ j. slice_index_or marks j false) 0 (length own) k then Some (slice_index own (k - 0)) else None)
          ≡ (if slice_index_or marks k false && (true && q) then Some (slice_index own k) else None)
      test q e =
          let same : k - 0 ≡ k = omega arith in
          let all : 0 + length own ≡ length own = omega arith in
          let low : nat_le 0 k ≡ true = grind (arith, nat_tests) in
          ap (λ j. if slice_index_or marks j false && (nat_le 0 k && nat_lt k (0 + length own)) then Some (slice_index own j) else None)
          same
          ∙ ap₂ (λ a b. if slice_index_or marks k false && (a && b) then Some (slice_index own k) else None) low
          (ap (nat_lt k) all ∙ e)

      here : (b : Bool) → if_marked (Some b) (Some (slice_index own k))
          ≡ (if b && (true && true) then Some (slice_index own k) else None)
      here true = refl
      here false = refl

      past : (b : Bool) → None ≡ (if b && (true && false) then Some (slice_index own k) else None)
      past true = refl
      past false = refl

      within : (q : Bool) → nat_lt k (length own) ≡ q →
          if_marked (slice_get marks k) (slice_get own k)
          ≡ (if is_put (λ j. slice_index_or marks j false) 0 (length own) k then Some (slice_index own (k - 0)) else None)
      within true e =
          let lt : k < length own = ltb-true k (length own) e in
          ap₂ if_marked (slice_get-get_or marks k false (omega arith)) (slice_get-get_or own k 0 lt)
          ∙ here (slice_index_or marks k false) ∙ sym (test true e)
      within false e =
          ap (if_marked (slice_get marks k)) (get_none own k (ltb-false k (length own) e))
          ∙ none_there (slice_get marks k) ∙ past (slice_index_or marks k false) ∙ sym (test false e)

get_front : (n : ℕ) (xs : List ℕ) (j : ℕ) → j < n → slice_get (take n xs) j ≡ slice_get xs j
get_front zero xs j h = absurd (omega arith)
get_front (suc n) [] j h = refl
get_front (suc n) (x ∷ xs) zero h = refl
get_front (suc n) (x ∷ xs) (suc j) h = get_front n xs j (omega arith)

get_behind : (n : ℕ) (xs : List ℕ) (j : ℕ) → slice_get (drop n xs) j ≡ slice_get xs (n + j)
get_behind zero xs j = ap (slice_get xs) (omega arith)
get_behind (suc n) [] j = refl
get_behind (suc n) (x ∷ xs) j =
    let e : suc n + j ≡ suc (n + j) = omega arith in
    get_behind n xs j ∙ sym (ap (slice_get (x ∷ xs)) e)

range_size : (xs : List ℕ) (from end : ℕ) → end ≤ length xs → length (slice_range xs from end) ≡ end - from
range_size xs from end h = length-take-le (end - from) (drop from xs) (simp length-drop (omega arith))

range_get : (xs : List ℕ) (from end j : ℕ) → end ≤ length xs → j < end - from →
    slice_get xs (from + j) ≡ Some (slice_index (slice_range xs from end) j)
range_get xs from end j h lt =
    sym (get_front (end - from) (drop from xs) j lt ∙ get_behind from xs j)
    ∙ slice_get-get_or (slice_range xs from end) j 0 (omega (arith, range_size xs from end h))

-- a row of which a run is stored, or in which nothing is
module _ (row over now : Parts) (first : ℕ) (lent own xs : List ℕ) (from end : ℕ) (alike : IsAlike row over)
    (same : xs ≡ own) (have : HaveMarks lent own (kinds.Run from end))
    (is : run_parts first lent own (kinds.Run from end) ≡ over) where
  pub run_laid : HasPut all_of from (slice_range xs from end) row now → IsLaid row over now
  run_laid put =
      let count : end ≤ length xs = omega (arith, have.1.0, ap length same) in
      put_laid row over now all_of from (slice_range xs from end) alike put
      (of_run first lent own over from end (slice_range xs from end) have is (range_size xs from end count)
      (λ j lt. ap (λ ys. slice_get ys (from + j)) (sym same) ∙ range_get xs from end j count lt))

  pub none_laid : end ≤ from → IsLaid row over row
  none_laid le = nothing_laid row over alike (of_none first lent own over from end have is le)

-- a row each cell of which says whether it is stored
pub each_laid : (row over now : Parts) (first : ℕ) (lent own xs : List ℕ) (marks ms : List Bool) → IsAlike row over →
    xs ≡ own → ms ≡ marks → length marks ≡ length own → length own ≡ length lent → row_parts first lent own marks ≡ over →
    HasPut (λ k. slice_index_or ms k false) 0 xs row now → IsLaid row over now
each_laid row over now first lent own xs marks ms alike same same_marks count whole is put =
    put_laid row over now (λ k. slice_index_or marks k false) 0 own alike
    (subst (λ (bs : List Bool). HasPut (λ k. slice_index_or bs k false) 0 own row now) same_marks
    (subst (λ (ys : List ℕ). HasPut (λ k. slice_index_or ms k false) 0 ys row now) same put))
    (of_each first lent own over marks count whole (sym (all_own first lent own marks whole) ∙ is))
