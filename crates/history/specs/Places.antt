-- Where one cell is current.
use Rattle.std.specs.Prelude.{ℕ, Bool, true, false, ◌<◌, Option, Some, None, slice_get, take}
use Rattle.base.specs.declared.item.Cell.{Cell}
use Rattle.base.specs.Items.{Plan}
use Rattle.base.specs.Memory.{changed}
use Rattle.base.specs.Actions.{stages}
use Rattle.base.specs.Current.{AllCurrent, after_stages, at_start}
use Rattle.history.specs.declared.History.{History}
use Rattle.history.specs.declared.Side.{Side}
use Rattle.history.specs.declared.Side.TheVariants.{Host, Device}
use Rattle.history.specs.declared.State.{State}
use Rattle.history.specs.declared.State.TheVariants.{Current, Stale}

-- on the host, and on each device
pub record Places : Type 0 where
  pub host : Bool
  pub devices : ℕ → Bool

abbrev pub at_cell : Cell → AllCurrent → Places
at_cell c k = record { host = k.host c; devices = λ d. k.devices d c }

-- where it is current before the item of this number, by the definition of currency
abbrev pub before : Plan → Cell → ℕ → Places
before plan c n = at_cell c (after_stages (take n (stages plan)) at_start)

-- there are four devices
abbrev pub IsSide : Side → Type 0
IsSide Host = Unit {0}
IsSide (Device d) = d < 4

abbrev pub place_of : Side → Places → Bool
place_of Host p = p.host
place_of (Device d) p = p.devices d

abbrev pub with_place : Side → Bool → Places → Places
with_place Host b p = record p { host = b }
with_place (Device d) b p = record p { devices = changed d b p.devices }

abbrev pub is_current : State → Bool
is_current Current = true
is_current (Stale e) = false

abbrev pub is_current_in : Option State → Bool
is_current_in None = false
is_current_in (Some s) = is_current s

-- where a history says that its cell is current
abbrev pub shown : History → Places
shown h = record { host = is_current h.host; devices = λ d. is_current_in (slice_get h.devices.items d) }
