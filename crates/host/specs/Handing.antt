-- Which items are handed to workers, which were, and which of these are open.
use Rattle.std.specs.Prelude.{ℕ, Bool, ◌&&◌, ◌||◌, List, [], ◌∷◌, filter, flat_map, length, if◌then◌else◌}
use Rattle.std.specs.List.{range_with_len}
use Rattle.base.specs.declared.item.Event.{Event}
use Rattle.base.specs.declared.item.Event.TheVariants.{Gen, Open, Step, Close, Wait, End}
use Rattle.base.specs.declared.item.Item.{Item}
use Rattle.base.specs.Accepted.{is_target}
use Rattle.base.specs.Items.{Plan}
use Rattle.base.specs.Machine.{State, is_open}
use Rattle.host.specs.Idle.{is_for_workers}

-- the workers open and close this item
abbrev pub is_handed : Item → Bool
is_handed it = it.deferred || is_target it.kind

-- the items for workers that are open, ascending
abbrev pub open_for_workers : Plan → State → List ℕ
open_for_workers p s =
    filter (λ i. is_for_workers p (Open i) && is_open (s.condition i)) (range_with_len 0 (length p.items))

-- the item that an event opens, where it is for workers
abbrev pub handed_by : Plan → Event → List ℕ
handed_by p (Open i) = if is_for_workers p (Open i) then i ∷ [] else []
handed_by p (Gen i) = []
handed_by p (Step i) = []
handed_by p (Close i) = []
handed_by p (Wait i) = []
handed_by p End = []

-- the items for workers that these events opened, in order
abbrev pub handed : Plan → List Event → List ℕ
handed p events = flat_map (handed_by p) events
