-- Heads of loops of directives: what the walk is at where it meets an item, and where that was so before.
use Rattle.std.specs.Prelude.{ℕ, ◌≡◌, ◌+◌, ◌-◌, ◌<◌, ◌≤◌, ◌++◌, List, Option, Some, Bool, length, map, take, drop, slice_get}
use Rattle.bits.specs.Sets.{has}
use Rattle.base.specs.declared.item.Item.{Item}
use Rattle.base.specs.Map.{Block}
use Rattle.base.specs.Current.{AllCurrent}
use Rattle.ranges.specs.declared.cells.Footprint.{Footprint}
use Rattle.mapwalk.specs.declared.heads.Head.{Head}
use Rattle.mapwalk.specs.declared.heads.Head.TheVariants.{Unknown, Met, Repeated}
use Rattle.mapwalk.specs.declared.rows.Acts.{Acts}
use Rattle.mapwalk.specs.declared.snapshot.DeviceShot.{DeviceShot}
use Rattle.mapwalk.specs.declared.snapshot.Snapshot.{Snapshot}
use Rattle.mapwalk.specs.declared.state.State.{State}
use Rattle.mapwalk.specs.declared.steps.DeviceState.{DeviceState}
use Rattle.mapwalk.specs.Blocks.{block_of}
use Rattle.mapwalk.specs.Marks.{has_mark}
use Rattle.mapwalk.specs.Steps.{current_of, tables_of}
use Rattle.mapwalk.specs.Table.{blocks_of}

-- the blocks of each device with their counts, and the cells that are current
pub record AbstractState : Type 0 where
  pub tables : ℕ → List Block
  pub current : AllCurrent

abbrev pub state_of : State → AbstractState
state_of s = record { tables = tables_of s.devices.items; current = current_of s.host.items s.devices.items }

-- the blocks of a device, and the marks of each array
abbrev pub device_parts : DeviceState → List Block × List (ℕ → Bool)
device_parts d = (blocks_of d.blocks, map has_mark d.current.items)

abbrev pub shot_parts : DeviceShot → List Block × List (ℕ → Bool)
shot_parts d = (map block_of d.blocks.items, map has d.current.items)

-- the snapshot has the blocks, counts and marks of a state
pub record IsSnapshotOf (snapshot : Snapshot) (s : State) : Type 0 where
  pub host : map has snapshot.host.items ≡ map has_mark s.host.items
  pub devices : map shot_parts snapshot.devices.items ≡ map device_parts s.devices.items

-- two items have the same kind, device and map items
pub record IsLike (x y : Item) : Type 0 where
  pub kind : y.kind ≡ x.kind
  pub device : y.device.number ≡ x.device.number
  pub maps : y.maps.items ≡ x.maps.items

-- two items of a list are alike, and so are their footprints
pub record AreAlikeAt (items : List Item) (found : List (Option Footprint)) (i j : ℕ) : Type 0 where
  pub like : (x y : Item) → slice_get items i ≡ Some x → slice_get items j ≡ Some y → IsLike x y
  pub shared : slice_get found i ≡ slice_get found j

-- the next m items from item n on are like the m items before it, one by one
pub record IsNextTurn (items : List Item) (found : List (Option Footprint)) (n m : ℕ) : Type 0 where
  pub some : 0 < m
  pub before : m ≤ n
  pub inside : n + m ≤ length items
  pub alike : (j : ℕ) → j < m → AreAlikeAt items found (n - m + j) (n + j)

-- rows, and then the last m of them again
abbrev pub with_last : ℕ → List (List Acts) → List (List Acts)
with_last m rows = rows ++ take m (drop (length rows - m) rows)

-- what is known of the head of a loop before item n is so, where this is the state before each item
abbrev pub IsHeld : (ℕ → AbstractState) → ℕ → Head → Type 0
IsHeld history n Unknown = Unit {0}
IsHeld history n (Met item period snapshot) = (s : State) → IsSnapshotOf snapshot s → state_of s ≡ history item
IsHeld history n (Repeated period) = (period ≤ n) × (history (n - period) ≡ history n)
