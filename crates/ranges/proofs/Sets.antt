-- Sets of cells by their rows.
use Rattle.std.proofs.Common.{◌≡◌, ℕ, zero, suc, ◌<◌, ◌==◌, Bool, true, false, List, [], ◌∷◌, ◌++◌, length, get_or, Some, refl, sym, ap, ◌∙◌, eqb-true}
use Rattle.std.specs.Prelude.{slice_set}
use Rattle.std.proofs.lemmas.Option.{slice_get-get_or}
use Rattle.std.proofs.lemmas.Bool.{eqb-false}
use Rattle.base.proofs.Places.{get_set_same, get_set_other}
use mathlib.Core.Path.{fun_ext}
use Rattle.base.specs.declared.tree.ArrayId.{ArrayId}
use Rattle.base.specs.declared.item.Cell.{Cell}
use Rattle.ranges.specs.declared.row.Row.{Row}
use Rattle.bits.specs.declared.set.BitSet.{BitSet}
use Rattle.bits.specs.Sets.{has}
use Rattle.ranges.specs.Cells.{row_at, cells_of}

module _ (none : BitSet) (empty : (i : ℕ) → has none i ≡ false) where
  one_row_more : (rows : List Row) (row : Row) → ((i : ℕ) → has row.cells i ≡ false) → (a i : ℕ) →
      has (row_at none (rows ++ row ∷ []) a) i ≡ has (row_at none rows a) i
  one_row_more [] row e zero i = e i ∙ sym (empty i)
  one_row_more [] row e (suc a) i = refl
  one_row_more (r ∷ rows) row e zero i = refl
  one_row_more (r ∷ rows) row e (suc a) i = one_row_more rows row e a i

  -- one more array of which no cell is in the set
  pub rows_more : (rows after : List Row) (row : Row) → after ≡ rows ++ row ∷ [] → ((i : ℕ) → has row.cells i ≡ false) →
      ◌≡◌ {A = Cell → Bool} (λ c. has (row_at none after c.array.0) c.index) (λ c. has (row_at none rows c.array.0) c.index)
  rows_more rows after row is e = ap (λ xs (c : Cell). has (row_at none xs c.array.0) c.index) is
      ∙ fun_ext (λ (c : Cell). one_row_more rows row e c.array.0 c.index)

-- one row has other marks
pub row_changed : (none : BitSet) (rows : List Row) (a : ArrayId) (old new : Row) (now : Bool → ℕ → ℕ → Bool → Bool) →
    a.0 < length rows →
    old ≡ get_or rows a.0 old →
    ((k i : ℕ) (m : Bool) → now false k i m ≡ m) →
    ((i : ℕ) → has new.cells i ≡ now true a.0 i (has old.cells i)) →
    (c : Cell) → has (row_at none (slice_set rows a.0 new) c.array.0) c.index
    ≡ now (a.0 == c.array.0) c.array.0 c.index (has (row_at none rows c.array.0) c.index)
row_changed none rows a old new now within is other here c = go (a.0 == c.array.0) refl
  where
    go : (b : Bool) → (a.0 == c.array.0) ≡ b → has (row_at none (slice_set rows a.0 new) c.array.0) c.index
        ≡ now b c.array.0 c.index (has (row_at none rows c.array.0) c.index)
    go true h =
        let same : a.0 ≡ c.array.0 = eqb-true a.0 c.array.0 h in
        let held : row_at none rows c.array.0 ≡ old.cells = ap (row_at none rows) (sym same) ∙ ap (cells_of none)
        (slice_get-get_or rows a.0 old within ∙ ap Some (sym is)) in
        ap (λ k. has (row_at none (slice_set rows a.0 new) k) c.index) (sym same)
        ∙ ap (λ o. has (cells_of none o) c.index) (get_set_same rows a.0 new within)
        ∙ here c.index
        ∙ (λ i. now true (same i) c.index (has (sym held i) c.index))
    go false h =
        ap (λ o. has (cells_of none o) c.index) (get_set_other rows a.0 new c.array.0 (eqb-false a.0 c.array.0 h))
        ∙ sym (other c.array.0 c.index (has (row_at none rows c.array.0) c.index))
