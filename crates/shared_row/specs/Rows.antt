-- Rows of numbers by value.
use Rattle.std.specs.Prelude.{ℕ, ◌≡◌, ◌≤◌, ◌-◌, Bool, true, false, List, [], ◌++◌, Vec, replicate, slice_range, ◌+◌, vec_capacity}
use Rattle.std.specs.declared.alloc.Global.{Global}
use Rattle.shared_row.specs.declared.shared.SharedRow.{SharedRow}
use Rattle.shared_row.specs.declared.shared.SharedRow.TheVariants as row
use Rattle.shared_row.specs.declared.several.LentRow.{LentRow}
use Rattle.shared_row.specs.declared.lent.RowCells.{RowCells}
use Rattle.shared_row.specs.declared.lent.RowCells.TheVariants as cells
use Rattle.shared_row.specs.declared.marks.Marks.{Marks}
use Rattle.shared_row.specs.declared.marks.Marks.TheVariants as marks

-- the numbers of a row with one owner or with several
abbrev pub numbers_of : SharedRow → List ℕ
numbers_of (row.Sole numbers) = numbers.items
numbers_of (row.Shared several) = several.row.value.items

abbrev pub is_sole : SharedRow → Bool
is_sole (row.Sole numbers) = true
is_sole (row.Shared several) = false

-- numbers that are lent
abbrev pub lent_numbers : LentRow → List ℕ
lent_numbers r = slice_range r.row.value.items r.first (r.first + r.count)

-- the numbers of a frame's row, and for how many it has room
abbrev pub numbers_in : RowCells → List ℕ
numbers_in (cells.Own numbers) = numbers.items
numbers_in (cells.Lent lent) = lent_numbers lent

abbrev pub room_in : RowCells → ℕ
room_in (cells.Own numbers) = vec_capacity numbers
room_in (cells.Lent lent) = lent.count

-- for each of so many numbers whether it is marked
abbrev pub marks_of : ℕ → Marks → List Bool
marks_of n (marks.Run first end) = replicate first false ++ (replicate (end - first) true ++ replicate (n - end) false)
marks_of n (marks.Each each) = each.items

-- room for so many numbers, with none yet
pub record IsRoom (n : ℕ) (room : Vec ℕ Global) : Type 0 where
  pub empty : room.items ≡ []
  pub fits : n ≤ vec_capacity room
