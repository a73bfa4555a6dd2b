-- Blocks with their numbers, and the device that they show.
use Rattle.shared_row.specs.Rows.{numbers_of}
use Rattle.std.specs.Prelude.{ℕ, ◌≡◌, ◌+◌, ◌-◌, ◌*◌, ◌≤◌, Bool, true, ◌&&◌, ◌==◌, nat_le, List, [], ◌∷◌, Option, length, find, option_map, option_and_then, slice_get, sum_by}
use Rattle.std.specs.List.{list_all}
use Rattle.base.specs.declared.item.Cell.{Cell}
use Rattle.base.specs.declared.item.Section.{Section}
use Rattle.base.specs.Memory.{end_of, is_in}
use Rattle.base.specs.Map.{Block as Present, Device, in_use}
use Rattle.base.specs.Blocks.{AreApart, holder}
use Rattle.present.specs.declared.block.Block.{Block}

-- a section that has a cell and ends within 65,536 cells
pub record IsSection (s : Section) : Type 0 where
  pub has_cells : 1 ≤ s.length
  pub end : end_of s ≤ 65536

-- where a section begins and ends, in one row of arrays of 65,536 cells
abbrev pub start_of : Section → ℕ
start_of s = s.array.0 * 65536 + s.first

abbrev pub stop_of : Section → ℕ
stop_of s = start_of s + s.length

-- a block's section is one, and it has a number for each cell
abbrev pub is_stored : Block → Bool
is_stored b =
    nat_le 1 b.section.length && (nat_le (end_of b.section) 65536 && (length (numbers_of b.values) == b.section.length))

-- such blocks in order, none of which share a cell
abbrev pub are_stored : List Block → Bool
are_stored [] = true
are_stored (b ∷ rest) =
    is_stored b && (list_all (λ x. nat_le (stop_of b.section) (start_of x.section)) rest && are_stored rest)

abbrev pub length_of : Block → ℕ
length_of b = b.section.length

abbrev pub cells_in : List Block → ℕ
cells_in blocks = sum_by length_of blocks

-- What can be seen of blocks.

abbrev pub has : Cell → Block → Bool
has c b = is_in c b.section

-- the block that has a cell
abbrev pub stored_at : List Block → Cell → Option Block
stored_at blocks c = find (has c) blocks

abbrev pub present : Block → Present
present b = record { section = b.section; count = b.count }

abbrev pub number_in : Cell → Block → Option ℕ
number_in c b = slice_get (numbers_of b.values) (c.index - b.section.first)

-- a device that has the same block and the same number at each cell, and as many cells with storage
pub record Show (stored : List Block) (used : ℕ) (d : Device) : Type 0 where
  pub apart : AreApart d.blocks
  pub blocks : (c : Cell) → holder d.blocks c ≡ option_map present (stored_at stored c)
  pub numbers : (c : Cell) → d.cells c ≡ option_and_then (number_in c) (stored_at stored c)
  pub in_use : in_use d.blocks ≡ used
