-- Where a section lies among blocks in order.
use Rattle.std.specs.Prelude.{ℕ, ◌≡◌, ◌<◌, ◌≤◌, true, false, List, Some, length, slice_get}
use Rattle.base.specs.declared.item.Cell.{Cell}
use Rattle.base.specs.declared.item.Section.{Section}
use Rattle.base.specs.Memory.{is_in, is_inside}
use Rattle.present.specs.declared.block.Block.{Block}
use Rattle.present.specs.declared.find.Found.{Found}
use Rattle.present.specs.declared.find.Found.TheVariants.{Absent, Inside, InPart}
use Rattle.present.specs.Blocks.{start_of, stop_of}

-- each block below this number ends before a place, or there
abbrev pub AllBefore : List Block → ℕ → ℕ → Type 0
AllBefore blocks n place = (k : ℕ) (b : Block) → k < n → slice_get blocks k ≡ Some b → stop_of b.section ≤ place

-- each block from this number on ends after a place
abbrev pub AllAfter : List Block → ℕ → ℕ → Type 0
AllAfter blocks n place = (k : ℕ) (b : Block) → n ≤ k → slice_get blocks k ≡ Some b → place < stop_of b.section

-- no block has a cell of the section, and between these two blocks there is room for it
pub record IsAbsentAt (blocks : List Block) (s : Section) (n : ℕ) : Type 0 where
  pub bound : n ≤ length blocks
  pub before : AllBefore blocks n (start_of s)
  pub after : (k : ℕ) (b : Block) → n ≤ k → slice_get blocks k ≡ Some b → stop_of s ≤ start_of b.section

pub record IsInsideAt (blocks : List Block) (s : Section) (n : ℕ) : Type 0 where
  pub block : Block
  pub is : slice_get blocks n ≡ Some block
  pub inside : is_inside s block.section ≡ true

pub record IsInPart (blocks : List Block) (s : Section) : Type 0 where
  pub block : Block
  pub place : ℕ
  pub is : slice_get blocks place ≡ Some block
  pub cell : Cell
  pub in_block : is_in cell block.section ≡ true
  pub in_section : is_in cell s ≡ true
  pub outside : is_inside s block.section ≡ false

abbrev pub IsFound : List Block → Section → Found → Type 0
IsFound blocks s (Absent n) = IsAbsentAt blocks s n
IsFound blocks s (Inside n) = IsInsideAt blocks s n
IsFound blocks s InPart = IsInPart blocks s

-- the block that has a cell stands here
pub record IsBlockAt (blocks : List Block) (c : Cell) (n : ℕ) : Type 0 where
  pub block : Block
  pub is : slice_get blocks n ≡ Some block
  pub has : is_in c block.section ≡ true
