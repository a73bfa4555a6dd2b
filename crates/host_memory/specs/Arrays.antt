-- The host memory as it is kept, a row of numbers for each array.
use Rattle.std.specs.Prelude.{ℕ, ◌≡◌, ◌≤◌, List, [], Option, Some, None, map, length, slice_get, unwrap_or}
use Rattle.base.specs.declared.item.Section.{Section}
use Rattle.host_memory.specs.declared.memory.Memory.{Memory as Arrays}
use Rattle.base.specs.Memory.{Memory, end_of}
use Rattle.shared_row.specs.Rows.{numbers_of}
use Rattle.shared_row.specs.declared.shared.SharedRow.{SharedRow}

abbrev pub length_of : SharedRow → ℕ
length_of row = length (numbers_of row)

abbrev pub items_of : Option SharedRow → List ℕ
items_of None = []
items_of (Some row) = numbers_of row

-- the numbers of an array, and none where it is not one of the memory's
abbrev pub row_of : Arrays → ℕ → List ℕ
row_of m a = items_of (slice_get m.arrays.items a)

abbrev pub lengths_of : Arrays → List ℕ
lengths_of m = map length_of m.arrays.items

-- the memory that this is, with 0 in every other cell
abbrev pub memory_of : Arrays → Memory
memory_of m c = unwrap_or (slice_get (row_of m c.array.0) c.index) 0

-- the same numbers, whoever owns the rows
pub record IsSameMemory (old new : Arrays) : Type 0 where
  pub memory : memory_of new ≡ memory_of old
  pub lengths : lengths_of new ≡ lengths_of old

-- a section of cells that the memory has
pub record IsWithin (m : Arrays) (s : Section) : Type 0 where
  pub has_cells : 1 ≤ s.length
  pub end : end_of s ≤ length (row_of m s.array.0)
