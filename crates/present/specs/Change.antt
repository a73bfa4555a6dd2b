-- What the steps of a call do to the blocks of a table.
use Rattle.shared_row.specs.Rows.{numbers_of}
use Rattle.std.specs.Prelude.{ℕ, ◌≡◌, ◌+◌, ◌-◌, ◌<◌, ◌≤◌, Bool, true, false, List, Some, insert, remove, replicate, slice_get, slice_set}
use Rattle.base.specs.declared.item.Section.{Section}
use Rattle.base.specs.declared.item.MapItem.{MapItem}
use Rattle.base.specs.declared.fault.RunFault.{RunFault}
use Rattle.base.specs.declared.fault.RunFault.TheVariants as fault
use Rattle.base.specs.Memory.{is_inside}
use Rattle.base.specs.Map.{entry_copies}
use Rattle.present.specs.declared.Table.{Table}
use Rattle.present.specs.declared.block.Block.{Block}
use Rattle.present.specs.declared.entry.Counted.{Counted}
use Rattle.present.specs.Found.{IsAbsentAt, IsInPart}

abbrev pub blocks_of : Table → List Block
blocks_of t = t.blocks.items

abbrev pub SameBlocks : Table → Table → Type 0
SameBlocks old new = blocks_of new ≡ blocks_of old

abbrev pub with_count : Block → ℕ → Block
with_count b n = record { section = b.section; count = n; values = b.values }

-- a block was created here, and entered once
pub record Creates (old new : Table) (s : Section) (at : ℕ) : Type 0 where
  pub block : Block
  pub blocks : blocks_of new ≡ insert (blocks_of old) at block
  pub section : block.section ≡ s
  pub count : block.count ≡ 1
  pub values : numbers_of block.values ≡ replicate s.length old.fresh

-- the block here got this count
pub record Recounts (old new : Table) (at count : ℕ) : Type 0 where
  pub before : Block
  pub is : slice_get (blocks_of old) at ≡ Some before
  pub blocks : blocks_of new ≡ slice_set (blocks_of old) at (with_count before count)

-- the block here was removed
pub record Removes (old new : Table) (at : ℕ) : Type 0 where
  pub before : Block
  pub is : slice_get (blocks_of old) at ≡ Some before
  pub blocks : blocks_of new ≡ remove (blocks_of old) at

-- an entry created its block
pub record Opens (old new : Table) (item : MapItem) (at : ℕ) (copied : Bool) : Type 0 where
  pub absent : IsAbsentAt (blocks_of old) item.section at
  pub without_present : item.present ≡ false
  pub room : old.used + item.section.length ≤ old.capacity
  pub creates : Creates old new item.section at
  pub copies : copied ≡ entry_copies item 1

-- an entry counted its block
pub record Raises (old new : Table) (item : MapItem) (at : ℕ) (copied : Bool) : Type 0 where
  pub before : Block
  pub is : slice_get (blocks_of old) at ≡ Some before
  pub inside : is_inside item.section before.section ≡ true
  pub blocks : blocks_of new ≡ slice_set (blocks_of old) at (with_count before (before.count + 1))
  pub copies : copied ≡ entry_copies item (before.count + 1)

-- what the count of an entry did, where it created its block or not
abbrev pub IsCountedAt : Table → Table → MapItem → ℕ → Bool → Bool → Type 0
IsCountedAt old new item at copied true = Opens old new item at copied
IsCountedAt old new item at copied false = Raises old new item at copied

abbrev pub IsCounted : Table → Table → MapItem → Counted → Type 0
IsCounted old new item k = IsCountedAt old new item k.at k.copies k.creates

pub record IsOver (t : Table) (item : MapItem) : Type 0 where
  pub at : ℕ
  pub absent : IsAbsentAt (blocks_of t) item.section at
  pub without_present : item.present ≡ false
  pub over : t.capacity < t.used + item.section.length

-- the section of an entry is to be present and is absent
pub record IsMissing (t : Table) (item : MapItem) : Type 0 where
  pub at : ℕ
  pub absent : IsAbsentAt (blocks_of t) item.section at
  pub with_present : item.present ≡ true

-- an entry may not be done
pub data IsRefused (t : Table) (item : MapItem) : Type 0 where
  Partly : (part : IsInPart (blocks_of t) item.section) → IsRefused t item
  Missing : (missing : IsMissing t item) → IsRefused t item

-- why the count of an entry is refused
abbrev pub IsCountFault : Table → MapItem → RunFault → Type 0
IsCountFault t item fault.OutOfMemory = Unit {0}
IsCountFault t item fault.DeviceFull = IsOver t item
IsCountFault t item fault.Absent = IsRefused t item
IsCountFault t item fault.Stranger = ⊥
IsCountFault t item fault.ThreadNotStarted = ⊥
IsCountFault t item fault.OtherState = ⊥
IsCountFault t item fault.RangeRefused = ⊥

-- the block here has this count
pub record IsCountAt (t : Table) (at count : ℕ) : Type 0 where
  pub block : Block
  pub is : slice_get (blocks_of t) at ≡ Some block
  pub count' : count ≡ block.count

-- the count of the block here can be taken back
pub record CanUncount (t : Table) (at : ℕ) : Type 0 where
  pub block : Block
  pub is : slice_get (blocks_of t) at ≡ Some block
  pub above : 1 ≤ block.count

-- the block here is gone, or counted once less
abbrev pub IsUncounted : Table → Table → ℕ → Bool → Type 0
IsUncounted old new at true = Removes old new at
IsUncounted old new at false = (b : Block) → slice_get (blocks_of old) at ≡ Some b →
    blocks_of new ≡ slice_set (blocks_of old) at (with_count b (b.count - 1))
