-- What entries, exits and updates do to the table and the host memory that the code keeps.
use Rattle.std.specs.Prelude.{◌≡◌, ◌≤◌, ℕ, Bool, true, false, List, [], ◌∷◌, Option, Some, if◌then◌else◌, length}
use Rattle.base.specs.declared.item.Cell.{Cell}
use Rattle.base.specs.declared.item.MapItem.{MapItem}
use Rattle.base.specs.declared.item.ItemKind.{ItemKind}
use Rattle.base.specs.declared.item.ItemKind.TheVariants as kind
use Rattle.base.specs.declared.fault.RunFault.{RunFault}
use Rattle.base.specs.declared.fault.RunFault.TheVariants as fault
use Rattle.host_memory.specs.declared.memory.Memory.{Memory as Arrays}
use Rattle.base.specs.Map.{Block, Device, Fill, Memories, enter, in_turn, leave, update}
use Rattle.present.specs.declared.Table.{Table}
use Rattle.base.specs.Memory.{View}
use Rattle.present.specs.Rows.{with_numbers}
use Rattle.present.specs.Table.{Are, HasNoRoom, Shows, count_at, memories}

-- a rule can be followed on a device that the table shows
pub record Goes (rule : Memories → Option Memories) (t : Table) (host : Arrays) : Type 0 where
  pub device : Device
  pub shown : Shows t device
  pub after : Memories
  pub is : rule (memories host device) ≡ Some after

-- what a rule makes of each device that the old table shows, the new one shows
abbrev pub Leads : (Memories → Option Memories) → Table → Arrays → Table → Arrays → Type 0
Leads rule old host new after = (d : Device) (m : Memories) → Shows old d → rule (memories host d) ≡ Some m → Are after new m

-- the exits of a kernel can be done after its stores
pub record LeavesFrom (stored : View) (maps : List MapItem) (t : Table) (host : Arrays) : Type 0 where
  pub device : Device
  pub shown : Shows t device
  pub after : Memories
  pub is : in_turn leave maps (memories host (with_numbers stored device)) ≡ Some after

-- what a kernel's stores and then its exits make of each device that the old table shows, the new one shows
abbrev pub LeavesTo : View → List MapItem → Table → Arrays → Table → Arrays → Type 0
LeavesTo stored maps old host new after = (d : Device) (m : Memories) → Shows old d →
    in_turn leave maps (memories host (with_numbers stored d)) ≡ Some m → Are after new m

-- no block was entered and not left more often than this
abbrev pub CountsAtMost : ℕ → List Block → Type 0
CountsAtMost n [] = Unit {0}
CountsAtMost n (b ∷ rest) = (b.count ≤ n) × CountsAtMost n rest

-- whether an item of this kind enters its map items when it is opened
abbrev pub enters : ItemKind → Bool
enters kind.Target = true
enters kind.Begin = true
enters kind.Enter = true
enters kind.Host = false
enters kind.End = false
enters kind.Exit = false
enters kind.Update = false
enters kind.Wait = false

-- what an item of this kind does with its map items when it is opened
abbrev pub opens_with : Fill → ItemKind → List MapItem → Memories → Option Memories
opens_with fill kind.Target maps = in_turn (enter fill) maps
opens_with fill kind.Begin maps = in_turn (enter fill) maps
opens_with fill kind.Enter maps = in_turn (enter fill) maps
opens_with fill kind.Host maps = Some
opens_with fill kind.End maps = in_turn leave maps
opens_with fill kind.Exit maps = in_turn leave maps
opens_with fill kind.Update maps = in_turn update maps
opens_with fill kind.Wait maps = Some

-- how many map items an item enters
abbrev pub entered_by : ItemKind → List MapItem → ℕ
entered_by k maps = if enters k then length maps else 0

-- no block was entered and not left more often than this
abbrev pub AreCounted : Table → ℕ → Type 0
AreCounted t n = (c : Cell) → count_at t c ≤ n

-- why an item is not opened: for want of memory, or because its entries would create more cells than there is room for
abbrev pub IsMapsFault : Table → ItemKind → List MapItem → RunFault → Type 0
IsMapsFault t k maps fault.OutOfMemory = Unit {0}
IsMapsFault t k maps fault.DeviceFull = (enters k ≡ true) × HasNoRoom t maps
IsMapsFault t k maps fault.Absent = ⊥
IsMapsFault t k maps fault.Stranger = ⊥
IsMapsFault t k maps fault.ThreadNotStarted = ⊥
IsMapsFault t k maps fault.OtherState = ⊥
IsMapsFault t k maps fault.RangeRefused = ⊥
