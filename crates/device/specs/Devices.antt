-- The tables of the devices.
use Rattle.std.specs.Prelude.{ℕ, ◌≡◌, List, Option, Some, None, length, slice_get}
use Rattle.std.specs.List.{slice_set}
use Rattle.base.specs.declared.item.ItemKind.{ItemKind}
use Rattle.base.specs.declared.item.MapItem.{MapItem}
use Rattle.host_memory.specs.declared.memory.Memory.{Memory as Arrays}
use Rattle.base.specs.Map.{Device}
use Rattle.base.specs.Memory.{View}
use Rattle.present.specs.declared.Table.{Table}
use Rattle.present.specs.Table.{IsKept, IsUnchanged, Shows, capacity_of, fill_of}
use Rattle.device.specs.declared.devices.Devices.{Devices}
use Rattle.device.specs.Moves.{Leads, LeavesTo, opens_with}

-- how many devices there are
abbrev pub device_count : ℕ
device_count = 4

-- the table of a device
abbrev pub table_at : Devices → ℕ → Option Table
table_at all d = slice_get all.tables d

-- something holds of the table of a device
abbrev pub OnTable : Devices → ℕ → (Table → Type 0) → Type 0
OnTable all d holds = (t : Table) → table_at all d ≡ Some t → holds t

-- the tables show these devices
abbrev pub ShowAll : Devices → (ℕ → Device) → Type 0
ShowAll all devices = (d : ℕ) → OnTable all d (λ t. Shows t (devices d))

-- each device has room for so many cells
abbrev pub HaveRoom : Devices → ℕ → Type 0
HaveRoom all capacity = (d : ℕ) → OnTable all d (λ t. capacity_of t ≡ capacity)

-- what each cell of created storage holds
abbrev pub fresh_of : Devices → ℕ
fresh_of all = elim (table_at all 0) [ None ↦ 0 | Some t ↦ t.fresh ]

-- there is a table for each device, and all fill the storage that they create with the same number
pub record AreAlike (all : Devices) : Type 0 where
  pub count : length all.tables ≡ device_count
  pub fresh : (d : ℕ) → OnTable all d (λ t. t.fresh ≡ fresh_of all)

-- the devices keep their room, and what they fill storage with
pub record AreKept (old new : Devices) : Type 0 where
  pub fresh : fresh_of new ≡ fresh_of old
  pub room : (capacity : ℕ) → HaveRoom old capacity → HaveRoom new capacity

-- the table of one device became another one, with the same room; the others are as they were
pub record Becomes (d : ℕ) (old new : Devices) (after : Table) : Type 0 where
  pub before : Table
  pub was : table_at old d ≡ Some before
  pub tables : new.tables ≡ slice_set old.tables d after
  pub kept : IsKept before after

-- it looks the same
pub record LooksTheSame (d : ℕ) (old new : Devices) : Type 0 where
  pub after : Table
  pub becomes : Becomes d old new after
  pub unchanged : IsUnchanged becomes.before after

-- what an item of this kind does on its device when it is opened was done
pub record OpensOn (d : ℕ) (kind : ItemKind) (maps : List MapItem) (old : Devices) (host : Arrays) (new : Devices)
    (host' : Arrays) : Type 0 where
  pub after : Table
  pub becomes : Becomes d old new after
  pub leads : Leads (opens_with (fill_of becomes.before) kind maps) becomes.before host after host'

-- a kernel's stores on its device, and then the exits, were done
pub record LeavesOn (d : ℕ) (stored : View) (maps : List MapItem) (old : Devices) (host : Arrays) (new : Devices)
    (host' : Arrays) : Type 0 where
  pub after : Table
  pub becomes : Becomes d old new after
  pub leads : LeavesTo stored maps becomes.before host after host'
