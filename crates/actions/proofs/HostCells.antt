-- One cell of the host memory.
use Rattle.std.proofs.Common.{◌≡◌, ◌⊎◌, ℕ, ◌+◌, ◌-◌, ◌==◌, ◌∷◌, [], Bool, true, false, List, length, Some, refl, sym, ◌∙◌, ap, inl, inr, arith}
use Rattle.std.specs.Prelude.{if◌then◌else◌, nat_lt, slice_get, slice_index, slice_range}
use Rattle.std.proofs.lemmas.Bool.{and_parts, and_from, eqb-true, eq-eqb, ltb-true, cases_Bool}
use mathlib.Core.Path.{fun_ext}
use Rattle.base.specs.declared.item.Cell.{Cell}
use Rattle.base.specs.declared.item.Section.{Section}
use Rattle.host_memory.specs.declared.memory.Memory.{Memory as Arrays}
use Rattle.host_memory.specs.Arrays.{IsWithin, lengths_of, memory_of, row_of}
use Rattle.host_memory.proofs.HostRows.{row_length}
use Rattle.base.specs.Memory.{end_of, is_cell, is_in, same_cell, within}
use Rattle.base.proofs.Sections.{in_parts, in_from, first_in}
use Rattle.present.proofs.Copies.{host_number}
use Rattle.actions.specs.Acting.{alone}

pub has_length : (m : Arrays) (c : Cell) (n : ℕ) → n ≡ length (row_of m c.array.0) →
    nat_lt c.index n ≡ is_cell (lengths_of m) c
has_length m c n e = ap (nat_lt c.index) (e ∙ sym (row_length m c.array.0))

module _ (m : Arrays) (c : Cell) where
  pub cell_within : is_cell (lengths_of m) c ≡ true → IsWithin m (alone c)
  cell_within e =
      let l = ltb-true c.index (slice_index (lengths_of m) c.array.0) e in
      let s = row_length m c.array.0 in
      record { has_cells = omega arith; end = omega arith }

  pub number_there : is_cell (lengths_of m) c ≡ true →
      slice_get (slice_range (row_of m c.array.0) c.index (c.index + 1)) 0 ≡ Some (memory_of m c)
  number_there e =
      let none : 0 ≡ c.index - c.index = omega arith in
      ap (slice_get (slice_range (row_of m c.array.0) c.index (c.index + 1))) none
      ∙ host_number m (alone c) (cell_within e) c (first_in (alone c) (omega arith))

  -- the section that is read, and its numbers
  pub read_alone : (s : Section) (numbers : List ℕ) → is_cell (lengths_of m) c ≡ true → s ≡ alone c →
      numbers ≡ slice_range (row_of m s.array.0) s.first (end_of s) → slice_get numbers 0 ≡ Some (memory_of m c)
  read_alone s numbers e is read =
      ap (λ xs. slice_get xs 0)
      (read ∙ ap (λ (t : Section). slice_range (row_of m t.array.0) t.first (end_of t)) is)
      ∙ number_there e

-- the section of one cell has that cell alone
in_alone : (c d : Cell) → is_in d (alone c) ≡ same_cell c d
in_alone c d = go (cases_Bool (is_in d (alone c))) (cases_Bool (same_cell c d))
  where
    forth : is_in d (alone c) ≡ true → same_cell c d ≡ true
    forth h =
        let p = in_parts d (alone c) h in
        let x = p.above in
        let y = p.below in
        and_from (c.array.0 == d.array.0) (c.index == d.index) (eq-eqb c.array.0 d.array.0 (sym p.array))
        (eq-eqb c.index d.index (omega arith))

    back : same_cell c d ≡ true → is_in d (alone c) ≡ true
    back h =
        let p = and_parts (c.array.0 == d.array.0) (c.index == d.index) h in
        let x = eqb-true c.index d.index p.1 in
        in_from d (alone c)
        (record { array = sym (eqb-true c.array.0 d.array.0 p.0); above = omega arith; below = omega arith })

    go : (is_in d (alone c) ≡ true) ⊎ (is_in d (alone c) ≡ false) → (same_cell c d ≡ true) ⊎ (same_cell c d ≡ false) →
        is_in d (alone c) ≡ same_cell c d
    go (inl a) _ = a ∙ sym (forth a)
    go (inr a) (inl b) = back b ∙ sym b
    go (inr a) (inr b) = a ∙ sym b

-- one number for one cell
pub set_alone : (m : Cell → ℕ) (c : Cell) (n : ℕ) (s : Section) → s ≡ alone c →
    within s (λ d. slice_index (n ∷ []) (d.index - s.first)) m ≡ (λ d. if same_cell c d then n else m d)
set_alone m c n s is =
    ap (λ (t : Section). within t (λ d. slice_index (n ∷ []) (d.index - t.first)) m) is
    ∙ fun_ext (λ d. at d (is_in d (alone c)) refl)
  where
    same_index : (d : Cell) → is_in d (alone c) ≡ true → slice_index (n ∷ []) (d.index - c.index) ≡ n
    same_index d h =
        let p = in_parts d (alone c) h in
        let x = p.above in
        let y = p.below in
        let none : d.index - c.index ≡ 0 = omega arith in
        ap (slice_index (n ∷ [])) none

    at : (d : Cell) (b : Bool) → is_in d (alone c) ≡ b →
        within (alone c) (λ d. slice_index (n ∷ []) (d.index - c.index)) m d ≡ (if same_cell c d then n else m d)
    at d true h =
        ap (λ (b : Bool). elim b [ true ↦ slice_index (n ∷ []) (d.index - c.index) | false ↦ m d ]) h
        ∙ same_index d h
        ∙ ap (λ (b : Bool). if b then n else m d) (sym (sym (in_alone c d) ∙ h))
    at d false h =
        ap (λ (b : Bool). elim b [ true ↦ slice_index (n ∷ []) (d.index - c.index) | false ↦ m d ]) h
        ∙ ap (λ (b : Bool). if b then n else m d) (sym (sym (in_alone c d) ∙ h))
