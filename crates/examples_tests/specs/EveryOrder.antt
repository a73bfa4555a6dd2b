-- What accepted programs print, in every order of their events.
use Rattle.std.specs.Prelude.{ℕ, ◌≡◌, List, [], ◌∷◌, Some, Vec, Box}
use Rattle.std.specs.declared.alloc.Global.{Global}
use Rattle.base.specs.declared.tree.Part.{Part}
use Rattle.base.specs.declared.tree.Program.{Program}
use Rattle.base.specs.declared.item.Event.{Event}
use Rattle.base.specs.Meaning.{lengths_of}
use Rattle.base.specs.Items.{plan}
use Rattle.base.specs.Map.{Fill}
use Rattle.base.specs.Machine.{State, RunFrom, HasEnded}
use Rattle.base.specs.Headline.{IsFill}
use Rattle.examples_tests.specs.Smallest.{smallest}
use Rattle.examples_tests.specs.More.{two_halves, one_after_other, in_data, copied_again, two_devices, any_order, two_loops, inner_in_order, own_scalar, summed, between}

-- every run that ends has printed these numbers, whatever created storage holds: of each program with arrays of these
-- lengths and with these parts, with no input
abbrev pub PrintsAlways : List ℕ → List Part → List ℕ → Type 0
PrintsAlways lengths parts printed =
    (p : Program) → lengths_of p ≡ lengths → p.body.items ≡ parts →
    (fill : ℕ → Fill) (events : List Event) (s : State) → IsFill fill → RunFrom (plan p) fill [] events (Some s) →
    HasEnded (plan p) s → s.output ≡ printed

pub record OrdersShowNothing (v : Vec (Unit {0}) Global) (p : Box (Unit {0}) Global) : Type 0 where
  pub smallest_prints : PrintsAlways (4 ∷ []) (smallest v p) (1 ∷ 3 ∷ 5 ∷ 7 ∷ [])
  pub two_halves_prints : PrintsAlways (8 ∷ []) (two_halves v p) (1 ∷ 2 ∷ 3 ∷ 4 ∷ 40 ∷ 50 ∷ 60 ∷ 70 ∷ [])
  pub one_after_other_prints : PrintsAlways (4 ∷ []) (one_after_other v p) (2 ∷ 4 ∷ 6 ∷ 8 ∷ [])
  pub in_data_prints : PrintsAlways (4 ∷ []) (in_data v p) (6 ∷ [])
  pub copied_again_prints : PrintsAlways (4 ∷ 4 ∷ []) (copied_again v p) (6 ∷ 6 ∷ 6 ∷ 6 ∷ [])
  pub two_devices_prints : PrintsAlways (4 ∷ 8 ∷ []) (two_devices v p) (1 ∷ 2 ∷ 3 ∷ 4 ∷ 30 ∷ 30 ∷ 30 ∷ 30 ∷ [])
  pub any_order_prints : PrintsAlways (4 ∷ []) (any_order v p) (1 ∷ 3 ∷ 5 ∷ 7 ∷ [])
  pub two_loops_prints : PrintsAlways (8 ∷ []) (two_loops v p) (0 ∷ 1 ∷ 2 ∷ 3 ∷ 1 ∷ 2 ∷ 3 ∷ 4 ∷ [])
  pub inner_in_order_prints : PrintsAlways (2 ∷ []) (inner_in_order v p) (3 ∷ 4 ∷ [])
  pub own_scalar_prints : PrintsAlways (4 ∷ []) (own_scalar v p) (1 ∷ 2 ∷ 3 ∷ 4 ∷ [])
  pub summed_prints : PrintsAlways (1 ∷ 4 ∷ []) (summed v p) (60 ∷ [])
  pub between_prints : PrintsAlways (2 ∷ 4 ∷ []) (between v p) (30 ∷ 0 ∷ [])

abbrev pub NoOrderShows : Type 0
NoOrderShows = (v : Vec (Unit {0}) Global) (p : Box (Unit {0}) Global) → OrdersShowNothing v p
