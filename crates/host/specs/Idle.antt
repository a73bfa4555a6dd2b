-- What is for workers to do, and what for the host.
use Rattle.std.specs.Prelude.{◌≡◌, ℕ, Bool, true, false, ◌||◌, Option, Some, None, slice_get, if◌then◌else◌}
use Rattle.base.specs.declared.item.Event.{Event}
use Rattle.base.specs.declared.item.Event.TheVariants.{Gen, Open, Step, Close, Wait, End}
use Rattle.base.specs.declared.item.Item.{Item}
use Rattle.base.specs.declared.item.ItemKind.{ItemKind}
use Rattle.base.specs.declared.item.ItemKind.TheVariants as kind
use Rattle.base.specs.Accepted.{is_target}
use Rattle.base.specs.Items.{Plan, Work}
use Rattle.base.specs.Machine.{State, enabled, on_item}

-- an event that a worker does: a target or a deferred item is opened, or any item closed
abbrev pub is_for_workers : Plan → Event → Bool
is_for_workers p (Gen i) = false
is_for_workers p (Open i) = on_item p i false (λ w. w.deferred || is_target w.kind)
is_for_workers p (Step i) = false
is_for_workers p (Close i) = true
is_for_workers p (Wait i) = false
is_for_workers p End = false

-- nothing may happen next but what a worker does
abbrev pub IsHostIdle : Plan → State → Type 0
IsHostIdle p s = (e : Event) → enabled p s e ≡ true → is_for_workers p e ≡ true

-- no item may be opened next but one that the host opens
abbrev pub AreWorkersIdle : Plan → State → Type 0
AreWorkersIdle p s = (i : ℕ) → enabled p s (Open i) ≡ true → is_for_workers p (Open i) ≡ false

-- what the host does with an item that is not deferred, if anything
abbrev pub turn_of_kind : ItemKind → ℕ → Option Event
turn_of_kind kind.Target i = None
turn_of_kind kind.Wait i = Some (Wait i)
turn_of_kind kind.Host i = Some (Open i)
turn_of_kind kind.Begin i = Some (Open i)
turn_of_kind kind.End i = Some (Open i)
turn_of_kind kind.Enter i = Some (Open i)
turn_of_kind kind.Exit i = Some (Open i)
turn_of_kind kind.Update i = Some (Open i)

-- what the host does at its place, at which this item stands, or none behind the last
abbrev pub turn_of : ℕ → Option Item → Option Event
turn_of i None = Some End
turn_of i (Some it) = if it.deferred then Some (Gen i) else turn_of_kind it.kind i

-- that may not happen next
abbrev pub IsNotEnabled : Plan → State → Option Event → Type 0
IsNotEnabled p s None = Unit {0}
IsNotEnabled p s (Some e) = enabled p s e ≡ false

-- the host stands at no target that may be opened
abbrev pub IsNoTargetHere : Plan → State → Type 0
IsNoTargetHere p s = (w : Work) → slice_get p.items s.place ≡ Some w → w.deferred ≡ false → is_target w.kind ≡ true →
    enabled p s (Open s.place) ≡ false
