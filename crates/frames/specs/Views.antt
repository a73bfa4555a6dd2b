-- Rows as parts of a view, and memories after the stores of a region.
use Rattle.std.specs.Prelude.{ℕ, ◌≡◌, true, List, Some, unwrap_or}
use Rattle.base.specs.declared.item.Cell.{Cell}
use Rattle.base.specs.Memory.{Memory, View, is_cell}

-- the memory in which cells took these numbers
abbrev pub with_stored : View → Memory → Memory
with_stored numbers memory c = unwrap_or (numbers c) (memory c)

-- every cell has storage, with one number in all
abbrev pub every : ℕ → View
every n c = Some n

-- what a region stored is in arrays of these lengths
abbrev pub AreCells : List ℕ → View → Type 0
AreCells lengths stored = (c : Cell) (n : ℕ) → stored c ≡ Some n → is_cell lengths c ≡ true
