-- What parts of an item do to where a cell is current.
use Rattle.std.specs.Prelude.{ℕ, ◌≡◌, Bool, true, false, not, ◌&&◌, ◌==◌, nat_lt, if◌then◌else◌, List, [], ◌∷◌, Option, Some, None, slice_set}
use Rattle.base.specs.declared.item.Cell.{Cell}
use Rattle.base.specs.declared.item.ItemKind.{ItemKind}
use Rattle.base.specs.declared.item.ItemKind.TheVariants as kind
use Rattle.base.specs.declared.item.MapItem.{MapItem}
use Rattle.base.specs.declared.item.Section.{Section}
use Rattle.base.specs.Memory.{is_in}
use Rattle.ranges.specs.declared.cells.Footprint.{Footprint}
use Rattle.ranges.specs.Cells.{has}
use Rattle.mapwalk.specs.declared.rows.Acts.{Acts}
use Rattle.history.specs.declared.History.{History}
use Rattle.history.specs.declared.How.{How}
use Rattle.history.specs.declared.How.TheVariants.{Never, Written, Created, Removed, Copied}
use Rattle.history.specs.declared.Side.{Side}
use Rattle.history.specs.declared.Side.TheVariants.{Host, Device}
use Rattle.history.specs.declared.State.{State}
use Rattle.history.specs.declared.items.Part.{Part}
use Rattle.history.specs.declared.items.Part.TheVariants.{Entry, Exit, Update}
use Rattle.history.specs.Places.{Places, place_of, with_place}

-- an item did it
abbrev pub IsDeed : How → Type 0
IsDeed Never = ⊥
IsDeed (Written side) = Unit {0}
IsDeed (Created map) = Unit {0}
IsDeed (Removed map) = Unit {0}
IsDeed (Copied map side by) = Unit {0}

-- one side has this state, and the other sides have what they had
abbrev pub IsSet : Side → State → State → List State → History → Type 0
IsSet Host s host devices new = (new.host ≡ s) × (new.devices.items ≡ devices)
IsSet (Device d) s host devices new = (new.host ≡ host) × (new.devices.items ≡ slice_set devices d s)

abbrev pub is_device : Side → ℕ → Bool
is_device Host e = false
is_device (Device d) e = e == d

-- on the devices below this one that are not this side the cell is stale
abbrev pub spoiled_below : ℕ → Side → Places → Places
spoiled_below n side p = record p { devices = λ e. not (nat_lt e n && not (is_device side e)) && p.devices e }

abbrev pub place_if : Bool → Side → Bool → Places → Places
place_if b side value p = if b then with_place side value p else p

-- a region ran on the host, or on a device, which may write the cell, or surely does: on the host and that device
abbrev pub ran : Side → ℕ → Bool → Bool → Places → Places
ran Host d writes sure p = place_if sure Host true (place_if writes (Device d) false p)
ran (Device e) d writes sure p = place_if sure (Device d) true (place_if writes Host false p)

-- and on the other devices
abbrev pub spoiled_if : Bool → ℕ → Places → Places
spoiled_if writes d p = if writes then spoiled_below 4 (Device d) p else p

-- a map item before the region
abbrev pub entered : Side → Cell → Section → Acts → Places → Places
entered side c s a p =
    let q = place_if (a.creates && is_in c a.block) side false p in
    place_if (a.copies_in && is_in c s) side q.host q

-- a map item after the region
abbrev pub left : Side → Cell → Section → Acts → Places → Places
left side c s a p =
    let q = place_if (a.copies_out && is_in c s) Host (place_of side p) p in
    place_if (a.removes && is_in c a.block) side false q

-- one section of an update
abbrev pub updated : Side → Cell → Section → Acts → Places → Places
updated side c s a p =
    let q = place_if (a.copies_in && is_in c s) side p.host p in
    place_if (a.copies_out && is_in c s) Host (place_of side q) q

abbrev pub acted : Part → Side → Cell → Section → Acts → Places → Places
acted Entry side c s a p = entered side c s a p
acted Exit side c s a p = left side c s a p
acted Update side c s a p = updated side c s a p

abbrev pub all_acted : Part → Side → Cell → List MapItem → List Acts → Places → Places
all_acted part side c [] row p = p
all_acted part side c (m ∷ maps) [] p = p
all_acted part side c (m ∷ maps) (a ∷ row) p = all_acted part side c maps row (acted part side c m.section a p)

-- the region of an item with this footprint
abbrev pub ran_found : Side → ℕ → Cell → Option Footprint → Places → Places
ran_found side d c None p = p
ran_found side d c (Some f) p = ran side d (has f.write c) (has f.sure c) p

abbrev pub spoiled_found : ℕ → Cell → Option Footprint → Places → Places
spoiled_found d c None p = p
spoiled_found d c (Some f) p = spoiled_if (has f.write c) d p

-- an item: on the host and its device
abbrev pub stepped_here : ItemKind → ℕ → Cell → List MapItem → List Acts → Option Footprint → Places → Places
stepped_here kind.Host d c maps row found p = ran_found Host d c found p
stepped_here kind.Target d c maps row found p =
    all_acted Exit (Device d) c maps row (ran_found (Device d) d c found (all_acted Entry (Device d) c maps row p))
stepped_here kind.Begin d c maps row found p = all_acted Entry (Device d) c maps row p
stepped_here kind.Enter d c maps row found p = all_acted Entry (Device d) c maps row p
stepped_here kind.End d c maps row found p = all_acted Exit (Device d) c maps row p
stepped_here kind.Exit d c maps row found p = all_acted Exit (Device d) c maps row p
stepped_here kind.Update d c maps row found p = all_acted Update (Device d) c maps row p
stepped_here kind.Wait d c maps row found p = p

-- and on the other devices
abbrev pub stepped : ItemKind → ℕ → Cell → List MapItem → List Acts → Option Footprint → Places → Places
stepped k d c maps row found p = spoiled_found d c found (stepped_here k d c maps row found p)
