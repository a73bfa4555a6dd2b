-- Where events of the two-memory machine lead.
use Rattle.std.specs.Prelude.{ℕ, List, [], ◌∷◌, Option, Some, option_and_then}
use Rattle.base.specs.declared.item.Event.{Event}
use Rattle.base.specs.Items.{Plan, plan}
use Rattle.base.specs.Map.{Fill}
use Rattle.base.specs.Machine.{State, start, step}

-- the state after these events, or none where one of them failed
abbrev pub after_events : Plan → (ℕ → Fill) → List Event → Option State → Option State
after_events plan fill [] s = s
after_events plan fill (e ∷ rest) s = after_events plan fill rest (option_and_then (λ t. step plan fill t e) s)

-- the state after these events from the start with this input
abbrev pub reached : Plan → (ℕ → Fill) → List ℕ → List Event → Option State
reached plan fill input events = after_events plan fill events (Some (start input))
