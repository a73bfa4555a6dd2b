-- The rows of the host memory.
use Rattle.std.proofs.Common.{◌≡◌, ℕ, zero, suc, ◌-◌, ◌<◌, ◌≤◌, ◌==◌, ◌&&◌, Bool, true, false, List, [], ◌∷◌, length, map, Some, None, refl, sym, ap, ◌∙◌, arith, replicate, get_or, ◌⊎◌, inl, inr, leb-false, leb-true, ltb-true, ltb-false}
use Rattle.std.specs.Prelude.{slice_get, slice_set, slice_index, unwrap_or, nat_le, nat_lt}
use mathlib.Core.Path.{fun_ext}
use Rattle.std.proofs.lemmas.Bool.{eqb-true, eqb-false}
use Rattle.std.proofs.lemmas.Option.{unwrap_or-slice_get, slice_get_cases}
use Rattle.base.specs.declared.item.Cell.{Cell}
use Rattle.base.specs.declared.item.Section.{Section}
use Rattle.host_memory.specs.declared.memory.Memory.{Memory as Arrays}
use Rattle.base.specs.Memory.{within, zeros, end_of}
use Rattle.base.specs.Arrays.{overwritten}
use Rattle.host_memory.specs.Arrays.{length_of, lengths_of, items_of, row_of, memory_of, IsWithin}
use Rattle.shared_row.specs.Rows.{numbers_of}
use Rattle.shared_row.specs.declared.shared.SharedRow.{SharedRow}
use Rattle.base.proofs.Places.{get_set_same, get_set_other, overwritten_before, overwritten_in, overwritten_after, length_overwritten}

abbrev pub row_items : SharedRow → List ℕ
row_items row = numbers_of row

abbrev pub rows_of : List (SharedRow) → List (List ℕ)
rows_of rows = map row_items rows

abbrev pub zero_row : ℕ → List ℕ
zero_row n = replicate n 0

-- a number of these rows, 0 outside them
abbrev pub number_in : List (SharedRow) → ℕ → ℕ → ℕ
number_in rows a i = unwrap_or (slice_get (items_of (slice_get rows a)) i) 0

zero_cell : (n i : ℕ) → unwrap_or (slice_get (zero_row n) i) 0 ≡ 0
zero_cell zero i = refl
zero_cell (suc n) zero = refl
zero_cell (suc n) (suc i) = zero_cell n i

zero_number : (lens : List ℕ) (rows : List (SharedRow)) → rows_of rows ≡ map zero_row lens → (a i : ℕ) → number_in rows a i ≡ 0
zero_number lens [] e a i = refl
zero_number [] (r ∷ rest) e a i = absurd (cc)
zero_number (n ∷ lens) (r ∷ rest) e zero i =
    let same : row_items r ≡ zero_row n = cc in
    ap (λ xs. unwrap_or (slice_get xs i) 0) same ∙ zero_cell n i
zero_number (n ∷ lens) (r ∷ rest) e (suc a) i =
    let same : rows_of rest ≡ map zero_row lens = cc in
    zero_number lens rest same a i

pub zero_memory : (lens : List ℕ) (m : Arrays) → rows_of m.arrays.items ≡ map zero_row lens → memory_of m ≡ zeros
zero_memory lens m e = fun_ext (λ (c : Cell). zero_number lens m.arrays.items e c.array.0 c.index)

length_zero_row : (n : ℕ) → length (zero_row n) ≡ n
length_zero_row zero = refl
length_zero_row (suc n) = let e : length (zero_row n) ≡ n = length_zero_row n in omega arith

pub zero_lengths : (lens : List ℕ) (rows : List (SharedRow)) → rows_of rows ≡ map zero_row lens → map length_of rows ≡ lens
zero_lengths [] [] e = refl
zero_lengths (n ∷ lens) [] e = absurd (cc)
zero_lengths [] (r ∷ rest) e = absurd (cc)
zero_lengths (n ∷ lens) (r ∷ rest) e =
    let same : row_items r ≡ zero_row n = cc in
    let more : rows_of rest ≡ map zero_row lens = cc in
    let first : length_of r ≡ n = ap length same ∙ length_zero_row n in
    let later : map length_of rest ≡ lens = zero_lengths lens rest more in
    cc

-- a section that the memory has is one of its arrays'
pub row_there : (m : Arrays) (s : Section) → IsWithin m s → s.array.0 < length m.arrays.items
row_there m s h = go (slice_get_cases m.arrays.items s.array.0)
  where
    go : (slice_get m.arrays.items s.array.0 ≡ slice_get m.arrays.items s.array.0) ×
        (((x : SharedRow) × (s.array.0 < length m.arrays.items) × (slice_get m.arrays.items s.array.0 ≡ Some x)
        × (get_or m.arrays.items s.array.0 x ≡ x))
        ⊎ ((length m.arrays.items ≤ s.array.0) × (slice_get m.arrays.items s.array.0 ≡ None))) →
        s.array.0 < length m.arrays.items
    go (e, inl x) = x.1
    go (e, inr x) =
        let none : length (row_of m s.array.0) ≡ 0 = ap (λ o. length (items_of o)) x.1 in
        absurd (omega (arith, h.has_cells, h.end))

module _ (rows : List (SharedRow)) (s : Section) (v w : SharedRow) (numbers : List ℕ)
    (there : s.array.0 < length rows) (row : slice_get rows s.array.0 ≡ Some v) (fits : end_of s ≤ length (numbers_of v))
    (long : length numbers ≡ s.length) (written : (numbers_of w) ≡ overwritten (numbers_of v) s.first numbers) where
  abbrev at_row : List ℕ → ℕ → ℕ
  at_row xs i = unwrap_or (slice_get xs i) 0

  new_row : slice_get (slice_set rows s.array.0 w) s.array.0 ≡ Some w
  new_row = get_set_same rows s.array.0 w there

  inside_row : (i : ℕ) (a b : Bool) → nat_le s.first i ≡ a → nat_lt i (end_of s) ≡ b →
      unwrap_or (slice_get (numbers_of w) i) 0
      ≡ elim (a && b) [ true ↦ slice_index numbers (i - s.first) | false ↦ unwrap_or (slice_get (numbers_of v) i) 0 ]
  inside_row i false b p q =
      ap (λ xs. unwrap_or (slice_get xs i) 0) written
      ∙ ap (λ o. unwrap_or o 0) (overwritten_before (numbers_of v) numbers s.first (omega arith) i (leb-false s.first i p))
  inside_row i true false p q =
      let past : end_of s ≤ i = ltb-false i (end_of s) q in
      ap (λ xs. unwrap_or (slice_get xs i) 0) written
      ∙ ap (λ o. unwrap_or o 0) (overwritten_after (numbers_of v) numbers s.first (omega arith) i (omega arith))
  inside_row i true true p q =
      let above : s.first ≤ i = leb-true s.first i p in
      let below : i < end_of s = ltb-true i (end_of s) q in
      ap (λ xs. unwrap_or (slice_get xs i) 0) written
      ∙ ap (λ o. unwrap_or o 0) (overwritten_in (numbers_of v) numbers s.first (omega arith) i above (omega arith))
      ∙ unwrap_or-slice_get numbers (i - s.first) 0

  pub set_number : (c : Cell) →
      number_in (slice_set rows s.array.0 w) c.array.0 c.index
      ≡ within s (λ c. slice_index numbers (c.index - s.first)) (λ c. number_in rows c.array.0 c.index) c
  set_number c = go (c.array.0 == s.array.0) refl
    where
      go : (b : Bool) → (c.array.0 == s.array.0) ≡ b →
          number_in (slice_set rows s.array.0 w) c.array.0 c.index
          ≡ elim (b && (nat_le s.first c.index && nat_lt c.index (end_of s))) [
            | true ↦ slice_index numbers (c.index - s.first)
            | false ↦ number_in rows c.array.0 c.index
          ]
      go false e =
          ap (λ o. unwrap_or (slice_get (items_of o) c.index) 0)
          (get_set_other rows s.array.0 w c.array.0 (λ x. eqb-false c.array.0 s.array.0 e (sym x)))
      go true e =
          let same : c.array.0 ≡ s.array.0 = eqb-true c.array.0 s.array.0 e in
          let old : unwrap_or (slice_get (numbers_of v) c.index) 0 ≡ number_in rows c.array.0 c.index =
          sym (ap (λ o. unwrap_or (slice_get (items_of o) c.index) 0) (ap (slice_get rows) same ∙ row)) in
          ap (λ o. unwrap_or (slice_get (items_of o) c.index) 0) (ap (slice_get (slice_set rows s.array.0 w)) same ∙ new_row)
          ∙ inside_row c.index (nat_le s.first c.index) (nat_lt c.index (end_of s)) refl refl
          ∙ ap (λ n. elim (nat_le s.first c.index && nat_lt c.index (end_of s)) [
            | true ↦ slice_index numbers (c.index - s.first)
            | false ↦ n
          ]) old

  pub same_length : length_of w ≡ length_of v
  same_length = ap length written ∙ length_overwritten (numbers_of v) numbers s.first (omega arith)

pub lengths_set : (rows : List (SharedRow)) (a : ℕ) (v w : SharedRow) → slice_get rows a ≡ Some v →
    length_of w ≡ length_of v →
    map length_of (slice_set rows a w) ≡ map length_of rows
lengths_set [] a v w is same = refl
lengths_set (x ∷ xs) zero v w is same =
    let e : x ≡ v = cc in
    ap (λ n. n ∷ map length_of xs) (same ∙ ap length_of (sym e))
lengths_set (x ∷ xs) (suc a) v w is same = ap (λ ns. length_of x ∷ ns) (lengths_set xs a v w is same)

-- another row with the same numbers
pub same_number : (rows : List SharedRow) (a : ℕ) (v w : SharedRow) → slice_get rows a ≡ Some v → numbers_of w ≡ numbers_of v →
    (b i : ℕ) → number_in (slice_set rows a w) b i ≡ number_in rows b i
same_number [] a v w is same b i = refl
same_number (x ∷ xs) zero v w is same zero i =
    let e : x ≡ v = cc in ap (λ ns. unwrap_or (slice_get ns i) 0) (same ∙ ap numbers_of (sym e))
same_number (x ∷ xs) zero v w is same (suc b) i = refl
same_number (x ∷ xs) (suc a) v w is same zero i = refl
same_number (x ∷ xs) (suc a) v w is same (suc b) i = same_number xs a v w is same b i

length_at : (rows : List SharedRow) (a : ℕ) → slice_index (map length_of rows) a ≡ length (items_of (slice_get rows a))
length_at [] a = refl
length_at (x ∷ rows) zero = refl
length_at (x ∷ rows) (suc a) = length_at rows a

-- the length of an array
pub row_length : (m : Arrays) (a : ℕ) → slice_index (lengths_of m) a ≡ length (row_of m a)
row_length m a = length_at m.arrays.items a

-- a memory with arrays of the same lengths has the same sections
pub same_within : (m n : Arrays) (s : Section) → lengths_of n ≡ lengths_of m → IsWithin m s → IsWithin n s
same_within m n s e w = record {
  has_cells = w.has_cells;
  end = (
      let old = row_length m s.array.0 in
      let new = row_length n s.array.0 in
      let same = ap (λ ls. slice_index ls s.array.0) e in
      let end = w.end in
      omega (arith, old, new, same, end)
      );
}
