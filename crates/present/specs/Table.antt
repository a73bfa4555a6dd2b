-- What can be seen of a table, and what its calls do.
use Rattle.std.specs.Prelude.{ℕ, ◌≡◌, ◌+◌, ◌<◌, ◌≤◌, ◌^◌, Bool, true, false, List, Option, Some, None, IsSomeAnd, option_map, option_and_then, map, length, unwrap_or, ◌==◌, ◌-◌, min, slice_get}
use Rattle.base.specs.declared.item.Cell.{Cell}
use Rattle.base.specs.declared.item.Section.{Section}
use Rattle.base.specs.declared.item.MapItem.{MapItem}
use Rattle.base.specs.declared.item.MapKind.TheVariants.{To, From}
use Rattle.host_memory.specs.declared.memory.Memory.{Memory as Arrays}
use Rattle.base.specs.declared.fault.RunFault.{RunFault}
use Rattle.base.specs.declared.fault.RunFault.TheVariants as fault
use Rattle.base.specs.Memory.{Memory, View, within}
use Rattle.host_memory.specs.Arrays.{memory_of, IsWithin}
use Rattle.base.specs.Map.{Block, Device, Fill, Memories, Move, Presence, Absent, Inside, InPart, presence, counted, without, entry, exit, exit_count, exit_copies, enter, in_turn, need}
use Rattle.present.specs.declared.Table.{Table}
use Rattle.present.specs.declared.presence.Presence.{Presence as Place}
use Rattle.present.specs.declared.presence.Presence.TheVariants as place
use Rattle.present.specs.Blocks.{IsSection, Show, stored_at, present, number_in}

-- the block that has a cell
abbrev pub block_at : Table → Cell → Option Block
block_at t c = option_map present (stored_at t.blocks.items c)

-- the number that a cell has in its storage
abbrev pub number_at : Table → View
number_at t c = option_and_then (number_in c) (stored_at t.blocks.items c)

abbrev pub cells_in_use : Table → ℕ
cells_in_use t = t.used

abbrev pub capacity_of : Table → ℕ
capacity_of t = t.capacity

-- what created storage holds
abbrev pub fill_of : Table → Fill
fill_of t = λ c. t.fresh

-- a device of the definitions that looks like the table: at each cell the same block and number, and as many cells in
-- use. Its blocks may stand in another order
abbrev pub Shows : Table → Device → Type 0
Shows t d = Show t.blocks.items t.used d

-- the table's own device
abbrev pub device_of : Table → Device
device_of t = record { blocks = map present t.blocks.items; cells = number_at t }

-- all that can be seen stays
pub record IsUnchanged (old new : Table) : Type 0 where
  pub blocks : block_at new ≡ block_at old
  pub numbers : number_at new ≡ number_at old
  pub in_use : cells_in_use new ≡ cells_in_use old
  pub capacity : capacity_of new ≡ capacity_of old
  pub fill : fill_of new ≡ fill_of old

-- what no call changes
pub record IsKept (old new : Table) : Type 0 where
  pub capacity : capacity_of new ≡ capacity_of old
  pub fill : fill_of new ≡ fill_of old

abbrev pub memories : Arrays → Device → Memories
memories host d = record { host = memory_of host; device = d }

-- memories that the host and the table show
pub record Are (arrays : Arrays) (t : Table) (m : Memories) : Type 0 where
  pub host : m.host ≡ memory_of arrays
  pub shown : Shows t m.device

-- what a rule makes of each device that the old table shows, the new one shows
abbrev pub Does : (Memories → Option Memories) → Table → Arrays → Table → Arrays → Type 0
Does rule old host new after = (d : Device) → Shows old d → IsSomeAnd (rule (memories host d)) (Are after new)

-- a rule answers nothing at any device that the table shows
abbrev pub Fails : (Memories → Option Memories) → Table → Arrays → Type 0
Fails rule t host = (d : Device) → Shows t d → rule (memories host d) ≡ None

-- there is room for what entries would create
abbrev pub HasRoom : Table → List MapItem → Type 0
HasRoom t items = (d : Device) → Shows t d → cells_in_use t + need items d.blocks ≤ capacity_of t

abbrev pub HasNoRoom : Table → List MapItem → Type 0
HasNoRoom t items = (d : Device) → Shows t d → capacity_of t < cells_in_use t + need items d.blocks

-- why entries are refused: where there is no room, and only else where one may not be done
abbrev pub IsEntryFault : Table → List MapItem → Type 0 → RunFault → Type 0
IsEntryFault t items refused fault.OutOfMemory = Unit {0}
IsEntryFault t items refused fault.DeviceFull = HasNoRoom t items
IsEntryFault t items refused fault.Absent = HasRoom t items × refused
IsEntryFault t items refused fault.Stranger = ⊥
IsEntryFault t items refused fault.ThreadNotStarted = ⊥
IsEntryFault t items refused fault.OtherState = ⊥
IsEntryFault t items refused fault.RangeRefused = ⊥

-- the only error of exits and updates: a section overlaps a block in part
abbrev pub IsAbsent : Type 0 → RunFault → Type 0
IsAbsent in_part f = (f ≡ fault.Absent) × in_part

-- the count of the block that has a cell, 0 where there is none
abbrev pub count_at : Table → Cell → ℕ
count_at t c = elim (block_at t c) [ None ↦ 0 | Some b ↦ b.count ]

abbrev pub first_cell : Section → Cell
first_cell s = record { array = s.array; index = s.first }

-- the block of a section can be entered so many times more
abbrev pub CountFits : Table → ℕ → Section → Type 0
CountFits t n s = count_at t (first_cell s) + n < 2 ^ 64

-- The parts of entries, exits and updates.

abbrev pub with_created : Fill → Move → Device → Device
with_created fill move d = record {
  blocks = move.blocks;
  cells = elim move.changes [ true ↦ within move.block (λ c. Some (fill c)) d.cells | false ↦ d.cells ];
}

-- the rule of entries in turn, where created storage holds what the table creates
abbrev pub entries : Table → List MapItem → Memories → Option Memories
entries t items = in_turn (enter (fill_of t)) items

-- the creation and the count of an entry, and whether it copies
abbrev pub counted_in : Fill → MapItem → Device → Option (Bool × Device)
counted_in fill item d = option_map (λ move. (move.copies, with_created fill move d)) (entry item d.blocks)

-- the count of an exit, and whether it copies and removes. The block stays
abbrev pub counted_out : MapItem → Device → Option (Bool × Bool × Device)
counted_out item d = at (presence d.blocks item.section)
  where
    at : Presence → Option (Bool × Bool × Device)
    at Absent = Some (false, false, d)
    at (Inside b) =
        let n = exit_count item.kind b.count in
        Some (exit_copies item n, n == 0, record d { blocks = map (counted b.section n) d.blocks })
    at InPart = None

-- the device with the host's numbers in the section
abbrev pub with_host : Section → Memory → Device → Device
with_host s host d = record d { cells = within s (λ c. Some (host c)) d.cells }

-- the host with the device's numbers in the section
abbrev pub with_device : Section → Device → Memory → Memory
with_device s d host = within s (λ c. unwrap_or (d.cells c) (host c)) host

-- that, if an exit copies
abbrev pub host_after : Bool → Section → Device → Memory → Memory
host_after true s d host = with_device s d host
host_after false s d host = host

-- the block that contains the section is gone
abbrev pub removed : Section → Device → Device
removed s d = at (presence d.blocks s)
  where
    at : Presence → Device
    at Absent = d
    at (Inside b) = record { blocks = without d.blocks b.section; cells = within b.section (λ c. None) d.cells }
    at InPart = d

-- an update's section, to the device or to the host
abbrev pub item_to : Section → MapItem
item_to s = record { kind = To; always = false; present = false; section = s; line = 0; column = 0 }

abbrev pub item_from : Section → MapItem
item_from s = record { kind = From; always = false; present = false; section = s; line = 0; column = 0 }

-- the creation and the count of an entry were done
abbrev pub IsCountedIn : MapItem → Bool → Table → Table → Type 0
IsCountedIn item copies old new = (d : Device) → Shows old d →
    IsSomeAnd (counted_in (fill_of old) item d) (λ r. (r.0 ≡ copies) × Shows new r.1)

-- there is no entry: the section overlaps a block in part, or is to be present and is absent
abbrev pub IsNoEntry : MapItem → Table → Type 0
IsNoEntry item t = (d : Device) → Shows t d → entry item d.blocks ≡ None

-- the count of an exit was done
abbrev pub IsCountedOut : MapItem → Bool → Bool → Table → Table → Type 0
IsCountedOut item copies removes old new = (d : Device) → Shows old d →
    IsSomeAnd (counted_out item d) (λ r. (r.0 ≡ copies) × (r.1 ≡ removes) × Shows new r.2)

-- there is no exit: the section overlaps a block in part
abbrev pub IsNoExit : MapItem → Table → Type 0
IsNoExit item t = (d : Device) → Shows t d → exit item d.blocks ≡ None

-- each item's section has a cell and ends within 65,536 cells
abbrev pub AreSections : List MapItem → Type 0
AreSections items = (k : ℕ) (item : MapItem) → slice_get items k ≡ Some item → IsSection item.section

-- the cells that entries would create, or the greatest number where they are more
abbrev pub IsNeed : Table → List MapItem → ℕ → Type 0
IsNeed t items n = (d : Device) → Shows t d → n ≡ min (need items d.blocks) (2 ^ 64 - 1)

-- each item's section lies in the memory
abbrev pub AreWithin : Arrays → List MapItem → Type 0
AreWithin host items = (k : ℕ) (item : MapItem) → slice_get items k ≡ Some item → IsWithin host item.section

-- the block of each item from this one on can be entered as often as there are items left
abbrev pub CountsFit : Table → List MapItem → ℕ → Type 0
CountsFit t items from = (k : ℕ) (item : MapItem) → from ≤ k → slice_get items k ≡ Some item →
    CountFits t (length items - from) item.section

-- there is room for what the entries would create on a device that the table shows
pub record SomeRoom (t : Table) (items : List MapItem) : Type 0 where
  pub device : Device
  pub shown : Shows t device
  pub room : cells_in_use t + need items device.blocks ≤ capacity_of t

-- why entries for which there is room are refused
abbrev pub IsPartFault : Type 0 → RunFault → Type 0
IsPartFault refused fault.OutOfMemory = Unit {0}
IsPartFault refused fault.DeviceFull = ⊥
IsPartFault refused fault.Absent = refused
IsPartFault refused fault.Stranger = ⊥
IsPartFault refused fault.ThreadNotStarted = ⊥
IsPartFault refused fault.OtherState = ⊥
IsPartFault refused fault.RangeRefused = ⊥

-- the device with the host's numbers in the section, if an entry copies
abbrev pub with_host_if : Bool → Section → Memory → Device → Device
with_host_if true s host d = with_host s host d
with_host_if false s host d = d

-- where a section lies, whichever block it is inside of
abbrev pub place_of : Presence → Place
place_of Absent = place.Absent
place_of (Inside b) = place.Inside
place_of InPart = place.InPart

-- where a section lies on each device that the table shows
abbrev pub IsPresence : Section → Table → Place → Type 0
IsPresence s t p = (d : Device) → Shows t d → place_of (presence d.blocks s) ≡ p
