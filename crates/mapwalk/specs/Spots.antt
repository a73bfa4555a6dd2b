-- Blocks in the order of their places.
use Rattle.std.specs.Prelude.{ℕ, ◌≡◌, ◌≢◌, ◌+◌, ◌-◌, ◌*◌, ◌<◌, ◌≤◌, ◌^◌, ◌==◌, Bool, true, false, List, None, Some, length, map, nat_lt, slice_get, if◌then◌else◌}
use Rattle.std.specs.List.{list_any}
use Rattle.base.specs.declared.item.Section.{Section}
use Rattle.base.specs.Map.{Absent, Inside, InPart, presence}
use Rattle.base.specs.Memory.{same_section}
use Rattle.mapwalk.specs.declared.blocks.Block.{Block}
use Rattle.mapwalk.specs.declared.spots.Spot.{Spot}
use Rattle.mapwalk.specs.declared.spots.Found.{Found}
use Rattle.mapwalk.specs.declared.spots.Found.TheVariants as found
use Rattle.mapwalk.specs.Blocks.{block_of}

-- where a section begins and ends, in one row of arrays of 2^65 places
abbrev pub start_of : Section → ℕ
start_of s = s.array.0 * 36893488147419103232 + s.first

abbrev pub stop_of : Section → ℕ
stop_of s = start_of s + s.length

-- numbers below 2^64
pub record IsSmall (s : Section) : Type 0 where
  pub first' : s.first < 2 ^ 64
  pub length' : s.length < 2 ^ 64

-- each ends where a later one begins, or before
abbrev pub AreInOrder : List Spot → Type 0
AreInOrder spots = (i j : ℕ) (x y : Spot) → i < j → slice_get spots i ≡ Some x → slice_get spots j ≡ Some y →
    stop_of x.section ≤ start_of y.section

-- the block of a spot
pub record HasBlock (blocks : List Block) (x : Spot) : Type 0 where
  pub block : Block
  pub is : slice_get blocks x.number ≡ Some block
  pub section : block.section ≡ x.section

-- the spot of a block
pub record HasSpot (spots : List Spot) (n : ℕ) : Type 0 where
  pub place : ℕ
  pub spot : Spot
  pub is : slice_get spots place ≡ Some spot
  pub number : spot.number ≡ n

-- spots in order, one for each block
pub record IsOrder (blocks : List Block) (spots : List Spot) : Type 0 where
  pub in_order : AreInOrder spots
  pub block : (k : ℕ) (x : Spot) → slice_get spots k ≡ Some x → HasBlock blocks x
  pub spot : (n : ℕ) (b : Block) → slice_get blocks n ≡ Some b → HasSpot spots n

-- the same as a fact
abbrev pub has_block : List Block → Spot → Bool
has_block blocks x = elim (slice_get blocks x.number) [ None ↦ false | Some b ↦ same_section b.section x.section ]

abbrev pub has_spot : List Spot → ℕ → Bool
has_spot spots n = list_any (λ x. x.number == n) spots

pub record AreOrdered (blocks : List Block) (spots : List Spot) : Type 0 where
  pub in_order : AreInOrder spots
  pub blocks' : (k : ℕ) (x : Spot) → slice_get spots k ≡ Some x → has_block blocks x ≡ true
  pub spots' : (n : ℕ) → n < length blocks → has_spot spots n ≡ true

-- each spot below this one ends before a place, or there
abbrev pub AllBefore : List Spot → ℕ → ℕ → Type 0
AllBefore spots n place = (k : ℕ) (x : Spot) → k < n → slice_get spots k ≡ Some x → stop_of x.section ≤ place

-- each spot from this one on ends after a place
abbrev pub AllAfter : List Spot → ℕ → ℕ → Type 0
AllAfter spots n place = (k : ℕ) (x : Spot) → n ≤ k → slice_get spots k ≡ Some x → place < stop_of x.section

-- no block overlaps the section, whose spot would stand here
pub record IsAbsentAt (blocks : List Block) (spots : List Spot) (s : Section) (n : ℕ) : Type 0 where
  pub bound : n ≤ length spots
  pub before : AllBefore spots n (start_of s)
  pub after : (k : ℕ) (x : Spot) → n ≤ k → slice_get spots k ≡ Some x → stop_of s ≤ start_of x.section
  pub absent : presence (map block_of blocks) s ≡ Absent

-- a spot that has cells stands here
pub record IsSpot (spots : List Spot) (n : ℕ) : Type 0 where
  pub spot : Spot
  pub is : slice_get spots n ≡ Some spot
  pub some : start_of spot.section < stop_of spot.section

-- the section lies inside the block of this spot, and no other block has its section
pub record IsInsideAt (blocks : List Block) (spots : List Spot) (s : Section) (n : ℕ) : Type 0 where
  pub spot : Spot
  pub is : slice_get spots n ≡ Some spot
  pub block : Block
  pub there : slice_get blocks spot.number ≡ Some block
  pub section : block.section ≡ spot.section
  pub some : start_of spot.section < stop_of spot.section
  pub inside : presence (map block_of blocks) s ≡ Inside (block_of block)
  pub one : (k : ℕ) (b : Block) → k ≢ spot.number → slice_get blocks k ≡ Some b → same_section b.section block.section ≡ false

-- the section lies inside this block, which stands here and has this spot, and no other block has its section
pub record IsHeldAt (blocks : List Block) (spots : List Spot) (s : Section) (at n : ℕ) (b : Block) : Type 0 where
  pub spot : IsSpot spots at
  pub number : spot.spot.number ≡ n
  pub there : slice_get blocks n ≡ Some b
  pub inside : presence (map block_of blocks) s ≡ Inside (block_of b)
  pub one : (k : ℕ) (c : Block) → k ≢ n → slice_get blocks k ≡ Some c → same_section c.section b.section ≡ false

abbrev pub IsFound : List Block → List Spot → Section → Found → Type 0
IsFound blocks spots s (found.Absent n) = IsAbsentAt blocks spots s n
IsFound blocks spots s (found.Inside n) = IsInsideAt blocks spots s n
IsFound blocks spots s found.InPart = presence (map block_of blocks) s ≡ InPart

-- a spot, when the block of number n is gone
abbrev pub lower : ℕ → Spot → Spot
lower n x = if nat_lt n x.number then record { section = x.section; number = x.number - 1 } else x
