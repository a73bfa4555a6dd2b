-- Sides: the marks of each array.
use Rattle.std.specs.Prelude.{ℕ, ◌≡◌, Bool, true, false, not, ◌&&◌, ◌||◌, List, Option, Some, None, map, slice_get, slice_index}
use Rattle.std.specs.List.{list_all, range_with_len}
use Rattle.base.specs.declared.item.Cell.{Cell}
use Rattle.base.specs.declared.tree.ArrayId.{ArrayId}
use Rattle.base.specs.Memory.{is_cell}
use Rattle.mapwalk.specs.declared.marks.Marks.{Marks}
use Rattle.mapwalk.specs.Marks.{has_mark}

-- whether a cell of an array is marked, if there is such an array
abbrev pub marked : Option Marks → ℕ → Bool
marked None i = false
marked (Some m) i = has_mark m i

-- the marks of an array
abbrev pub marks_at : List Marks → ℕ → ℕ → Bool
marks_at side a = marked (slice_get side a)

-- of how many cells
abbrev pub length_of : Marks → ℕ
length_of m = m.length

-- of how many cells each array is
abbrev pub row_lengths : List Marks → List ℕ
row_lengths side = map length_of side

-- the cells that are marked
abbrev pub marks_in : List Marks → Cell → Bool
marks_in side c = marks_at side c.array.0 c.index

-- each of these cells is one of an array
abbrev pub AreInside : List ℕ → (Cell → Bool) → Type 0
AreInside lengths cells = (c : Cell) → cells c ≡ true → is_cell lengths c ≡ true

abbrev pub with_added : (Cell → Bool) → (Cell → Bool) → Cell → Bool
with_added cells side c = cells c || side c

abbrev pub with_cut : (Cell → Bool) → (Cell → Bool) → Cell → Bool
with_cut cells side c = not (cells c) && side c

-- each cell of an array has this mark
abbrev pub IsStart : List ℕ → Bool → List Marks → Type 0
IsStart lengths mark side = (c : Cell) → is_cell lengths c ≡ true → marks_in side c ≡ mark

-- no cell of an array is one of these
abbrev pub AreNotCurrent : List ℕ → (Cell → Bool) → Type 0
AreNotCurrent lengths cells = (c : Cell) → is_cell lengths c ≡ true → cells c ≡ false

abbrev pub array_number : ArrayId → ℕ
array_number a = a.0

-- whether each cell of an array is marked
abbrev pub is_full_in : List Marks → ℕ → Bool
is_full_in side a = list_all (marks_at side a) (range_with_len 0 (slice_index (row_lengths side) a))
