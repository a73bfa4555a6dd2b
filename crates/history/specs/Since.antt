-- What made a cell stale last.
use Rattle.std.specs.Prelude.{ℕ, ◌≡◌, ◌+◌, ◌≤◌, Bool, false, List, Some, slice_get}
use Rattle.base.specs.Items.{Plan}
use Rattle.base.specs.declared.item.Cell.{Cell}
use Rattle.history.specs.declared.Event.{Event}
use Rattle.history.specs.declared.How.{How}
use Rattle.history.specs.declared.How.TheVariants.{Never, Written, Created, Removed, Copied}
use Rattle.history.specs.declared.History.{History}
use Rattle.history.specs.declared.Side.{Side}
use Rattle.history.specs.declared.Side.TheVariants.{Host, Device}
use Rattle.history.specs.declared.State.{State}
use Rattle.history.specs.declared.State.TheVariants.{Current, Stale}
use Rattle.history.specs.Places.{Places, before, shown}

-- the first item before which the cell is stale by what an item did
abbrev pub begins_by : How → ℕ → ℕ
begins_by Never item = 0
begins_by (Written side) item = item + 1
begins_by (Created map) item = item + 1
begins_by (Removed map) item = item + 1
begins_by (Copied map side by) item = item + 1

abbrev pub begins : Event → ℕ
begins e = begins_by e.how e.item

-- an event of this number, since which the cell was current before no item up to n
pub record HasEvent (past : ℕ → Bool) (n : ℕ) (events : List Event) (number : ℕ) : Type 0 where
  pub event : Event
  pub is : slice_get events number ≡ Some event
  pub by : begins event ≤ n + 1
  pub since : (k : ℕ) → begins event ≤ k → k ≤ n → past k ≡ false

abbrev pub IsSince : (ℕ → Bool) → ℕ → List Event → State → Type 0
IsSince past n events Current = Unit {0}
IsSince past n events (Stale number) = HasEvent past n events number

-- an event since which, up to item n, the cell was current before no item
pub record IsLast (past : ℕ → Bool) (n : ℕ) (e : Event) : Type 0 where
  pub by : begins e ≤ n + 1
  pub since : (k : ℕ) → begins e ≤ k → k ≤ n → past k ≡ false

-- the state that is kept of a side
abbrev pub IsKept : Side → State → History → Type 0
IsKept Host s h = h.host ≡ s
IsKept (Device d) s h = slice_get h.devices.items d ≡ Some s

-- that is so on each side
pub record AreSince (past : ℕ → Places) (n : ℕ) (h : History) : Type 0 where
  pub host : IsSince (λ k. (past k).host) n h.events.items h.host
  pub devices : (d : ℕ) (s : State) → slice_get h.devices.items d ≡ Some s → IsSince (λ k. (past k).devices d) n h.events.items s

-- the history of a cell before the item n: it is current where the definition says so, and where it is not, it was
-- current before no item since the event that is told
pub record IsHistory (plan : Plan) (c : Cell) (n : ℕ) (h : History) : Type 0 where
  pub cell : h.cell ≡ c
  pub current : shown h ≡ before plan c n
  pub since : AreSince (before plan c) n h
