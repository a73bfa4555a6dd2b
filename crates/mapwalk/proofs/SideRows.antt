-- Sides, array by array.
use Rattle.std.proofs.Common.{◌≡◌, ◌≢◌, ℕ, zero, suc, ◌+◌, ◌<◌, ◌≤◌, ◌==◌, Bool, true, false, List, [], ◌∷◌, ◌++◌, length, get_or, refl, sym, ap, ◌∙◌, arith, add-one, eqb-true, ltb-true}
use Rattle.std.specs.Prelude.{nat_lt, nat_le, if◌then◌else◌, ◌&&◌, slice_set, slice_index, filter, cond}
use Rattle.std.specs.List.{list_all, range_with_len}
use Rattle.std.proofs.lemmas.Bool.Decides.{nat_tests}
use Rattle.std.proofs.lemmas.List.Elements.{filter-append}
use mathlib.Core.Path.{fun_ext}
use Rattle.base.specs.declared.item.Cell.{Cell}
use Rattle.base.specs.declared.item.Section.{Section}
use Rattle.base.specs.Memory.{is_cell, within, end_of}
use Rattle.base.proofs.Places.{get_set_same, get_set_other}
use Rattle.mapwalk.specs.declared.marks.Marks.{Marks}
use Rattle.mapwalk.specs.Current.{AreInside, is_full_in, marked, marks_at, marks_in, row_lengths}
use Rattle.mapwalk.specs.Marks.{copied, covers, has_mark}

pub other_number : (i j : ℕ) → (i == j) ≡ false → j ≢ i
other_number i j e = grind (arith, nat_tests)

pub row_get : (rows : List Marks) (a : ℕ) (d : Marks) → a < length rows → (i : ℕ) →
    marks_at rows a i ≡ has_mark (get_or rows a d) i
row_get [] a d h i = absurd (omega arith)
row_get (r ∷ rows) zero d h i = refl
row_get (r ∷ rows) (suc a) d h i = row_get rows a d (omega arith) i

pub no_row : (rows : List Marks) (a : ℕ) → length rows ≤ a → (i : ℕ) → marks_at rows a i ≡ false
no_row [] a h i = refl
no_row (r ∷ rows) zero h i = absurd (omega arith)
no_row (r ∷ rows) (suc a) h i = no_row rows a (omega arith) i

pub length_row : (rows : List Marks) (a : ℕ) (d : Marks) → a < length rows →
    slice_index (row_lengths rows) a ≡ (get_or rows a d).length
length_row [] a d h = absurd (omega arith)
length_row (r ∷ rows) zero d h = refl
length_row (r ∷ rows) (suc a) d h = length_row rows a d (omega arith)

no_length : (rows : List Marks) (a : ℕ) → length rows ≤ a → slice_index (row_lengths rows) a ≡ 0
no_length [] a h = refl
no_length (r ∷ rows) zero h = absurd (omega arith)
no_length (r ∷ rows) (suc a) h = no_length rows a (omega arith)

pub lengths_count : (rows : List Marks) → length (row_lengths rows) ≡ length rows
lengths_count [] = refl
lengths_count (r ∷ rows) = let e : length (row_lengths rows) ≡ length rows = lengths_count rows in omega arith

pub full_row : (rows : List Marks) (a : ℕ) (d : Marks) → a < length rows →
    list_all (has_mark (get_or rows a d)) (range_with_len 0 (get_or rows a d).length) ≡ is_full_in rows a
full_row [] a d h = absurd (omega arith)
full_row (r ∷ rows) zero d h = refl
full_row (r ∷ rows) (suc a) d h = full_row rows a d (omega arith)

-- one array has other marks
pub marks_set : (rows : List Marks) (a : ℕ) (v : Marks) → a < length rows → (c : Cell) →
    marks_in (slice_set rows a v) c ≡ (if c.array.0 == a then has_mark v c.index else marks_in rows c)
marks_set rows a v h c = go (c.array.0 == a) refl
  where
    go : (t : Bool) → (c.array.0 == a) ≡ t →
        marks_in (slice_set rows a v) c ≡ (if t then has_mark v c.index else marks_in rows c)
    go true e =
        ap (λ k. marks_at (slice_set rows a v) k c.index) (eqb-true c.array.0 a e)
        ∙ ap (λ o. marked o c.index) (get_set_same rows a v h)
    go false e =
        ap (λ o. marked o c.index) (get_set_other rows a v c.array.0 (other_number c.array.0 a e))

pub lengths_set : (rows : List Marks) (a : ℕ) (v d : Marks) → v.length ≡ (get_or rows a d).length →
    row_lengths (slice_set rows a v) ≡ row_lengths rows
lengths_set [] a v d e = refl
lengths_set (r ∷ rows) zero v d e = ap (λ n. n ∷ row_lengths rows) e
lengths_set (r ∷ rows) (suc a) v d e = ap (λ ns. r.length ∷ ns) (lengths_set rows a v d e)

-- a section of one array is written
pub changed_side : (rows : List Marks) (s : Section) (v d : Marks) (from : Cell → Bool) (f : ℕ → Bool) →
    s.array.0 < length rows →
    ((i : ℕ) → has_mark v i ≡ copied s f (has_mark (get_or rows s.array.0 d)) i) →
    ((c : Cell) → c.array.0 ≡ s.array.0 → f c.index ≡ from c) →
    marks_in (slice_set rows s.array.0 v) ≡ within s from (marks_in rows)
changed_side rows s v d from f h written same =
    fun_ext (λ (c : Cell). marks_set rows s.array.0 v h c ∙ go c (c.array.0 == s.array.0) refl)
  where
    old : ℕ → Bool
    old = has_mark (get_or rows s.array.0 d)

    pick : (c : Cell) → c.array.0 ≡ s.array.0 → (t : Bool) →
        (if t then f c.index else old c.index) ≡ elim t [ true ↦ from c | false ↦ marks_in rows c ]
    pick c e true = same c e
    pick c e false = sym (row_get rows s.array.0 d h c.index) ∙ ap (λ k. marks_at rows k c.index) (sym e)

    go : (c : Cell) (t : Bool) → (c.array.0 == s.array.0) ≡ t →
        (if t then has_mark v c.index else marks_in rows c)
        ≡ elim (t && (nat_le s.first c.index && nat_lt c.index (end_of s))) [ true ↦ from c | false ↦ marks_in rows c ]
    go c false e = refl
    go c true e = written c.index ∙ pick c (eqb-true c.array.0 s.array.0 e) (covers s c.index)

-- no array is written where there is none
pub unchanged_side : (rows : List Marks) (s : Section) (from : Cell → Bool) → length rows ≤ s.array.0 →
    ((c : Cell) → c.array.0 ≡ s.array.0 → from c ≡ false) → marks_in rows ≡ within s from (marks_in rows)
unchanged_side rows s from h none = fun_ext (λ (c : Cell). go c (c.array.0 == s.array.0) refl)
  where
    pick : (c : Cell) → c.array.0 ≡ s.array.0 → (t : Bool) → marks_in rows c ≡ elim t [ true ↦ from c | false ↦ marks_in rows c ]
    pick c e true =
        ap (λ k. marks_at rows k c.index) e ∙ no_row rows s.array.0 h c.index ∙ sym (none c e)
    pick c e false = refl

    go : (c : Cell) (t : Bool) → (c.array.0 == s.array.0) ≡ t → marks_in rows c
        ≡ elim (t && (nat_le s.first c.index && nat_lt c.index (end_of s))) [ true ↦ from c | false ↦ marks_in rows c ]
    go c false e = refl
    go c true e = pick c (eqb-true c.array.0 s.array.0 e) (nat_le s.first c.index && nat_lt c.index (end_of s))

-- the rows below a are changed
abbrev pub up_to : ℕ → ((Cell → Bool) → Cell → Bool) → (Cell → Bool) → Cell → Bool
up_to a change before c = if nat_lt c.array.0 a then change before c else before c

at_itself : (k a : ℕ) → k ≡ a → nat_lt k a ≡ false
at_itself k a e = grind (arith, nat_tests)

just_below : (k a : ℕ) → k ≡ a → nat_lt k (a + 1) ≡ true
just_below k a e = grind (arith, nat_tests)

as_before : (k a : ℕ) → (k == a) ≡ false → nat_lt k (a + 1) ≡ nat_lt k a
as_before k a e = grind (arith, nat_tests)

pub up_step : (rows : List Marks) (a : ℕ) (v : Marks) (change : (Cell → Bool) → Cell → Bool) (before : Cell → Bool) →
    a < length rows → ((c : Cell) → marks_in rows c ≡ up_to a change before c) →
    ((c : Cell) → c.array.0 ≡ a → marks_in rows c ≡ before c → has_mark v c.index ≡ change before c) →
    (c : Cell) → marks_in (slice_set rows a v) c ≡ up_to (a + 1) change before c
up_step rows a v change before h inv here c = marks_set rows a v h c ∙ go (c.array.0 == a) refl
  where
    go : (t : Bool) → (c.array.0 == a) ≡ t →
        (if t then has_mark v c.index else marks_in rows c) ≡ up_to (a + 1) change before c
    go true e =
        let same : c.array.0 ≡ a = eqb-true c.array.0 a e in
        here c same (inv c ∙ ap (λ t. if t then change before c else before c) (at_itself c.array.0 a same))
        ∙ sym (ap (λ t. if t then change before c else before c) (just_below c.array.0 a same))
    go false e =
        inv c ∙ sym (ap (λ t. if t then change before c else before c) (as_before c.array.0 a e))

pub up_end : (now before : Cell → Bool) (a : ℕ) (change : (Cell → Bool) → Cell → Bool) →
    ((c : Cell) → now c ≡ up_to a change before c) → ((c : Cell) → nat_lt c.array.0 a ≡ false → before c ≡ change before c) →
    now ≡ change before
up_end now before a change inv rest = fun_ext (λ (c : Cell). inv c ∙ go c (nat_lt c.array.0 a) refl)
  where
    go : (c : Cell) (t : Bool) → nat_lt c.array.0 a ≡ t → (if t then change before c else before c) ≡ change before c
    go c true e = refl
    go c false e = rest c e

-- a cell that has no row, or is past its row's end, is in no set of cells
pub not_in : (lengths : List ℕ) (cells : Cell → Bool) (c : Cell) → AreInside lengths cells →
    slice_index lengths c.array.0 ≤ c.index → cells c ≡ false
not_in lengths cells c inside far = go (cells c) refl
  where
    past : slice_index lengths c.array.0 ≤ c.index → nat_lt c.index (slice_index lengths c.array.0) ≡ false
    past h = grind (arith, nat_tests)

    go : (t : Bool) → cells c ≡ t → t ≡ false
    go false e = refl
    go true e = sym (inside c e) ∙ past far

outside : (rows : List Marks) (k a : ℕ) → length rows ≤ a → nat_lt k a ≡ false → length rows ≤ k
outside rows k a h e = grind (arith, nat_tests)

pub far_cell : (rows : List Marks) (cells : Cell → Bool) (a : ℕ) (c : Cell) → AreInside (row_lengths rows) cells →
    length rows ≤ a → nat_lt c.array.0 a ≡ false → cells c ≡ false
far_cell rows cells a c inside h e =
    let none : slice_index (row_lengths rows) c.array.0 ≡ 0 = no_length rows c.array.0 (outside rows c.array.0 a h e) in
    not_in (row_lengths rows) cells c inside (omega arith)

-- each cell of these arrays has this mark
abbrev pub AllAre : Bool → List Marks → Type 0
AllAre mark rows = (a i : ℕ) → i < slice_index (row_lengths rows) a → marks_at rows a i ≡ mark

pub are_more : (rows : List Marks) (mark : Bool) (v : Marks) → AllAre mark rows →
    ((i : ℕ) → i < v.length → has_mark v i ≡ mark) → AllAre mark (rows ++ v ∷ [])
are_more [] mark v all new zero i h = new i h
are_more [] mark v all new (suc a) i h = absurd (omega arith)
are_more (r ∷ rows) mark v all new zero i h = all 0 i h
are_more (r ∷ rows) mark v all new (suc a) i h = are_more rows mark v (λ b. all (suc b)) new a i h

pub all_start : (rows : List Marks) (lengths : List ℕ) (mark : Bool) → row_lengths rows ≡ lengths → AllAre mark rows →
    (c : Cell) → is_cell lengths c ≡ true → marks_in rows c ≡ mark
all_start rows lengths mark e all c h =
    let long : slice_index (row_lengths rows) c.array.0 ≡ slice_index lengths c.array.0 = ap (λ ls. slice_index ls c.array.0) e in
    let low : c.index < slice_index lengths c.array.0 = ltb-true c.index (slice_index lengths c.array.0) h in
    all c.array.0 c.index (omega arith)

range_more : (a n : ℕ) → range_with_len a (suc n) ≡ range_with_len a n ++ (a + n) ∷ []
range_more a zero = let e : a ≡ a + 0 = omega arith in ap (λ k. k ∷ []) e
range_more a (suc n) =
    let e : a + 1 + n ≡ a + suc n = omega arith in
    ap (λ xs. a ∷ xs) (range_more (a + 1) n ∙ ap (λ k. range_with_len (a + 1) n ++ k ∷ []) e)

pub filter_more : (p : ℕ → Bool) (n : ℕ) → filter p (range_with_len 0 (n + 1)) ≡ filter p (range_with_len 0 n) ++ cond (p n) (n ∷ []) []
filter_more p n =
    let e : 0 + n ≡ n = omega arith in
    ap (λ k. filter p (range_with_len 0 k)) (add-one n) ∙ ap (λ xs. filter p xs) (range_more 0 n ∙ ap
    (λ k. range_with_len 0 n ++ k ∷ []) e) ∙ filter-append p (range_with_len 0 n) (n ∷ [])
