-- Sets of cells.
use Rattle.std.specs.Prelude.{ℕ, ◌≡◌, Bool, true, ◌&&◌, ◌||◌, ◌==◌, List, Option, Some, None, slice_get}
use Rattle.base.specs.declared.tree.ArrayId.{ArrayId}
use Rattle.base.specs.declared.item.Cell.{Cell}
use Rattle.base.specs.declared.fault.Interval.{Interval}
use Rattle.ranges.specs.declared.row.Row.{Row}
use Rattle.ranges.specs.declared.cells.CellSet.{CellSet}
use Rattle.ranges.specs.declared.cells.Footprint.{Footprint}
use Rattle.bits.specs.declared.set.BitSet.{BitSet}
use Rattle.bits.specs.Sets.{has as has_number}
use Rattle.ranges.specs.Rows.{is_within}

-- the cells of a row, or none where there is no row
abbrev pub cells_of : BitSet → Option Row → BitSet
cells_of none None = none
cells_of none (Some row) = row.cells

abbrev pub row_at : BitSet → List Row → ℕ → BitSet
row_at none rows a = cells_of none (slice_get rows a)

-- the cells of an array that are in the set, by their indices
abbrev pub row_of : CellSet → ℕ → BitSet
row_of s a = row_at s.none s.rows.items a

-- whether the cell is in the set
abbrev pub has : CellSet → Cell → Bool
has s c = has_number (row_of s c.array.0) c.index

-- whether the cell is one of these of the array
abbrev pub is_among : ArrayId → Interval → Cell → Bool
is_among a cells c = (a.0 == c.array.0) && is_within cells c.index

-- all of these cells of the array are in the set
abbrev pub HasAll : CellSet → ArrayId → Interval → Type 0
HasAll s a cells = (c : Cell) → is_among a cells c ≡ true → has s c ≡ true

-- each cell that was read is exposed or was surely written
abbrev pub AreKnown : (Cell → Bool) → (Cell → Bool) → (Cell → Bool) → Type 0
AreKnown exposed read sure = (c : Cell) → read c ≡ true → (exposed c || sure c) ≡ true

-- the second has in each of its sets the cells that the first has there, and its turns meet where those of the first do
pub record HasSameCells (f g : Footprint) : Type 0 where
  pub exposed : has g.exposed ≡ has f.exposed
  pub read : has g.read ≡ has f.read
  pub write : has g.write ≡ has f.write
  pub sure : has g.sure ≡ has f.sure
  pub meeting : g.meeting ≡ f.meeting
