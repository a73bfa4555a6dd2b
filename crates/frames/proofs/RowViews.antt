-- Rows that have the cells of a view, as the cells of a frame.
use Rattle.std.proofs.Common.{◌≡◌, ◌⊎◌, ℕ, zero, suc, ◌+◌, ◌-◌, ◌<◌, ◌≤◌, ◌^◌, Bool, true, false, List, [], ◌∷◌, ◌++◌, length, get_or, Option, Some, None, refl, sym, ap, ◌∙◌, inl, inr, true≢false, subst, length-append, arith}
use Rattle.std.specs.Prelude.{nat_le, nat_lt, slice_get, slice_index, slice_range, if◌then◌else◌}
use Rattle.std.proofs.lemmas.Bool.{cases_Bool, leb-true, leb-false, ltb-true, ltb-false, lt-ltb}
use Rattle.std.proofs.lemmas.Option.{slice_get-get_or, slice_get_within}
use mathlib.Core.Path.{fun_ext}
use Rattle.base.specs.declared.item.Cell.{Cell}
use Rattle.base.specs.declared.item.Section.{Section}
use Rattle.host_memory.specs.declared.memory.Memory.{Memory as Arrays}
use Rattle.base.specs.Memory.{View, end_of, is_in, view_of}
use Rattle.host_memory.specs.Arrays.{IsWithin, lengths_of, memory_of, row_of}
use Rattle.host_memory.proofs.HostRows.{row_length}
use Rattle.base.proofs.Places.{get_left, get_right}
use Rattle.kernel.specs.declared.frames.Row.{Row}
use Rattle.base.specs.Rows.{at_index}
use Rattle.kernel.specs.Rows.{cells_of}
use Rattle.base.proofs.Sections.{in_parts, in_from}
use Rattle.present.proofs.Founds.{one_block}
use Rattle.present.proofs.Copies.{host_number, section_length}
use Rattle.present.proofs.RowParts.{at_index_from, at_index_before, at_index_past}
use Rattle.regions.specs.Footprints.{BoundedView}
use Rattle.ranges.specs.Reach.{AreOfArrays, cell_of}
use Rattle.shared_row.specs.Rows.{numbers_in}
use Rattle.frames.specs.Reach.{in_reach}
use Rattle.frames.specs.Rows.{AreEach, AreNumbers, AreRows, IsRow, in_run}

-- One row.

-- numbers that stand for a run of cells
pub row_from : (view : View) (s : Section) (xs : List ℕ) → length xs ≡ s.length →
    ((i : ℕ) → is_in (cell_of s.array.0 i) s ≡ true → slice_get xs (i - s.first) ≡ view (cell_of s.array.0 i)) →
    (i : ℕ) → at_index s.first xs i ≡ in_run view s i
row_from view s xs long here i = go (cases_Bool (is_in (cell_of s.array.0 i) s))
  where
    chosen : (b : Bool) → is_in (cell_of s.array.0 i) s ≡ b →
        (if b then view (cell_of s.array.0 i) else None) ≡ in_run view s i
    chosen b e = ap (λ (t : Bool). if t then view (cell_of s.array.0 i) else None) (sym e)

    outside : is_in (cell_of s.array.0 i) s ≡ false → (b : Bool) → nat_le s.first i ≡ b → at_index s.first xs i ≡ None
    outside e false f = at_index_before s.first xs i (leb-false s.first i f)
    outside e true f =
        let l = leb-true s.first i f in
        at_index_past s.first xs i (past (nat_lt i (s.first + s.length)) refl)
      where
        past : (b : Bool) → nat_lt i (s.first + s.length) ≡ b → s.first + length xs ≤ i
        past true g =
            absurd (true≢false (sym (in_from (cell_of s.array.0 i) s
            (record { array = refl; above = leb-true s.first i f; below = ltb-true i (s.first + s.length) g })) ∙ e))
        past false g = let m = ltb-false i (s.first + s.length) g in omega arith

    go : (is_in (cell_of s.array.0 i) s ≡ true) ⊎ (is_in (cell_of s.array.0 i) s ≡ false) →
        at_index s.first xs i ≡ in_run view s i
    go (inl e) =
        let p = in_parts (cell_of s.array.0 i) s e in
        at_index_from s.first xs i p.above ∙ here i e ∙ chosen true e
    go (inr e) = outside e (nat_le s.first i) refl ∙ chosen false e

-- no cell
pub row_none : (view : View) (s : Section) → s.length ≡ 0 → (i : ℕ) → at_index s.first [] i ≡ in_run view s i
row_none view s none =
    row_from view s [] (sym none) (λ i e. (let p = in_parts (cell_of s.array.0 i) s e in
    let a = p.above in let b = p.below in absurd (omega arith)))

-- cells of the host
pub host_view : (m : Arrays) (c : Cell) → c.index < length (row_of m c.array.0) →
    view_of (lengths_of m) (memory_of m) c ≡ Some (memory_of m c)
host_view m c h =
    ap (λ (t : Bool). if t then Some (memory_of m c) else None)
    (lt-ltb c.index (slice_index (lengths_of m) c.array.0) (let l = row_length m c.array.0 in omega arith))

pub row_of_host : (m : Arrays) (s : Section) → IsWithin m s → (i : ℕ) →
    at_index s.first (slice_range (row_of m s.array.0) s.first (end_of s)) i
    ≡ in_run (view_of (lengths_of m) (memory_of m)) s i
row_of_host m s w =
    row_from (view_of (lengths_of m) (memory_of m)) s (slice_range (row_of m s.array.0) s.first (end_of s))
    (section_length m s w)
    (λ i e. host_number m s w (cell_of s.array.0 i) e
    ∙ sym (host_view m (cell_of s.array.0 i) (let p = in_parts (cell_of s.array.0 i) s e in
    let b = p.below in let l = w.end in omega arith)))

pub within_host : (m : Arrays) (s : Section) → 1 ≤ s.length →
    (1 ≤ s.length → end_of s ≤ slice_index (lengths_of m) s.array.0) → IsWithin m s
within_host m s some h =
    record { has_cells = some; end = subst (λ n. end_of s ≤ n) (row_length m s.array.0) (h some) }

pub empty_row : (view : View) (s : Section) (xs : List ℕ) → s.length ≡ 0 → xs ≡ [] → (r : Row) →
    numbers_in r.cells ≡ xs → r.first ≡ s.first → IsRow view s r
empty_row view s xs none e r f g = record {
  cells = λ i. (λ j. at_index (g j) ((f ∙ e) j) i) ∙ row_none view s none i;
  bounded = subst AreNumbers (sym (f ∙ e)) (λ k n h. absurd (cc h));
}

pub filled_row : (m : Arrays) (s : Section) (xs : List ℕ) (r : Row) → IsWithin m s →
    xs ≡ slice_range (row_of m s.array.0) s.first (end_of s) → AreNumbers xs →
    numbers_in r.cells ≡ xs → r.first ≡ s.first → IsRow (view_of (lengths_of m) (memory_of m)) s r
filled_row m s xs r w e b f g = record {
  cells = λ i. (λ j. at_index (g j) ((f ∙ e) j) i) ∙ row_of_host m s w i;
  bounded = subst AreNumbers (sym f) b;
}

-- Several rows.

-- one row more
pub each_more : (is : Section → Row → Type 0) (reach : List Section) (rows : List Row) (s : Section) (r : Row) →
    slice_get reach (length rows) ≡ Some s → is s r → AreEach is reach rows → AreEach is reach (rows ++ r ∷ [])
each_more is reach rows s r e one h a t q f g = go (nat_lt a (length rows)) refl
  where
    go : (b : Bool) → nat_lt a (length rows) ≡ b → is t q
    go true l = h a t q f (sym (get_left rows (r ∷ []) a (ltb-true a (length rows) l)) ∙ g)
    go false l =
        let past = ltb-false a (length rows) l in
        let bound = slice_get_within (rows ++ r ∷ []) a q g in
        let long = length-append rows (r ∷ []) in
        let at : a ≡ length rows = omega arith in
        let same : s ≡ t = one_block (slice_get reach a) s t (ap (slice_get reach) at ∙ e) f in
        let none : length rows - length rows ≡ 0 = omega arith in
        let last : slice_get (rows ++ r ∷ []) a ≡ Some r =
        ap (slice_get (rows ++ r ∷ [])) at ∙ get_right rows (r ∷ []) (length rows) (omega arith)
        ∙ ap (slice_get (r ∷ [])) none in
        let row : r ≡ q = one_block (slice_get (rows ++ r ∷ []) a) r q last g in
        subst (λ x. is x q) same (subst (is s) row one)

-- the same after a push
pub record Grown (is : Section → Row → Type 0) (reach : List Section) (n : ℕ) (rows : List Row) : Type 0 where
  pub count : length rows ≡ n
  pub each : AreEach is reach rows

pub grown_more : (is : Section → Row → Type 0) (reach : List Section) (n : ℕ) (rows after : List Row) (r : Row) (d : Section) →
    n < length reach → is (get_or reach n d) r → after ≡ rows ++ r ∷ [] → Grown is reach n rows → Grown is reach (n + 1) after
grown_more is reach n rows after r d within one e h =
    let count = h.count in
    let long = length-append rows (r ∷ []) in
    let at : slice_get reach (length rows) ≡ Some (get_or reach n d) =
    ap (slice_get reach) count ∙ slice_get-get_or reach n d within in
    record {
      count = ap length e ∙ (let l : length (rows ++ r ∷ []) ≡ n + 1 = omega arith in l);
      each = subst (AreEach is reach) (sym e) (each_more is reach rows (get_or reach n d) r at one h.each);
    }

-- a place where nothing stands is past the end
pub past_end : {A : Type 0} (xs : List A) (i : ℕ) → slice_get xs i ≡ None → length xs ≤ i
past_end [] i e = omega arith
past_end (x ∷ xs) zero e = absurd (cc e)
past_end (x ∷ xs) (suc i) e = let l = past_end xs i e in omega arith

-- the cells of a frame
abbrev pub by_row : ℕ → Option Row → Option ℕ
by_row i o = elim o [ None ↦ None | Some r ↦ at_index r.first (numbers_in r.cells) i ]

abbrev by_run : View → Cell → Option Section → Option ℕ
by_run view c o = if (elim o [ None ↦ false | Some s ↦ is_in c s ]) then view c else None

pub cells_in_reach : (view : View) (reach : List Section) (rows : List Row) → AreOfArrays reach →
    AreRows (IsRow view) reach rows → cells_of rows ≡ in_reach reach view
cells_in_reach view reach rows of h =
    fun_ext (λ (c : Cell). at c (slice_get reach c.array.0) refl (slice_get rows c.array.0) refl)
  where
    at : (c : Cell) (o : Option Section) → slice_get reach c.array.0 ≡ o →
        (p : Option Row) → slice_get rows c.array.0 ≡ p →
        cells_of rows c ≡ in_reach reach view c
    at c None e None f = ap (by_row c.index) f ∙ sym (ap (by_run view c) e)
    at c None e (Some r) f =
        let l = past_end reach c.array.0 e in
        let m = slice_get_within rows c.array.0 r f in
        let n = h.count in
        absurd (omega arith)
    at c (Some s) e None f =
        let l = past_end rows c.array.0 f in
        let m = slice_get_within reach c.array.0 s e in
        let n = h.count in
        absurd (omega arith)
    at c (Some s) e (Some r) f =
        ap (by_row c.index) f
        ∙ (h.each c.array.0 s r e f).cells c.index
        ∙ ap (λ n. if is_in (cell_of n c.index) s then view (cell_of n c.index) else None) (of c.array.0 s e)
        ∙ sym (ap (by_run view c) e)

pub cells_bounded : (rows : List Row) → ((a : ℕ) (r : Row) → slice_get rows a ≡ Some r → AreNumbers (numbers_in r.cells)) →
    BoundedView (cells_of rows)
cells_bounded rows h c n e = go (slice_get rows c.array.0) refl
  where
    go : (o : Option Row) → slice_get rows c.array.0 ≡ o → n < 2 ^ 64
    go None f = absurd (cc (sym (ap (by_row c.index) f) ∙ e))
    go (Some r) f = from (nat_le r.first c.index) refl
      where
        from : (b : Bool) → nat_le r.first c.index ≡ b → n < 2 ^ 64
        from true g =
            h c.array.0 r f (c.index - r.first) n
            (sym (at_index_from r.first (numbers_in r.cells) c.index (leb-true r.first c.index g))
            ∙ sym (ap (by_row c.index) f) ∙ e)
        from false g =
            absurd (cc (sym (at_index_before r.first (numbers_in r.cells) c.index (leb-false r.first c.index g))
            ∙ sym (ap (by_row c.index) f) ∙ e))

pub rows_bounded : (view : View) (reach : List Section) (rows : List Row) → AreRows (IsRow view) reach rows →
    BoundedView (cells_of rows)
rows_bounded view reach rows h = cells_bounded rows small
  where
    small : (a : ℕ) (r : Row) → slice_get rows a ≡ Some r → AreNumbers (numbers_in r.cells)
    small a r f = go (slice_get reach a) refl
      where
        go : (o : Option Section) → slice_get reach a ≡ o → AreNumbers (numbers_in r.cells)
        go None e =
            let l = past_end reach a e in
            let m = slice_get_within rows a r f in
            let n = h.count in
            absurd (omega arith)
        go (Some s) e = (h.each a s r e f).bounded
