-- The action at which a run stops.
use Rattle.std.specs.Prelude.{ℕ, ◌≡◌, List, Some, slice_get}
use Rattle.base.specs.declared.item.Event.{Event}
use Rattle.base.specs.declared.item.Event.TheVariants.{Step}
use Rattle.base.specs.declared.tree.Program.{Program}
use Rattle.base.specs.Items.{Plan, Work, plan}
use Rattle.fine_machine.specs.Machine.{State}
use Rattle.actions.specs.Strand.{request_of, side_of}
use Rattle.stepper.specs.declared.stops.Stop.{Stop}
use Rattle.stepper.specs.Answering.{IsFailed}
use Rattle.stepper.specs.Standing.{asked}

-- the event is this action of an open item, which comes next for it; the item stands at this place, and works on this device
pub record IsComing (p : Plan) (s : State) (e : Event) (stop : Stop) : Type 0 where
  pub is : e ≡ Step stop.item
  pub work : Work
  pub at : slice_get p.items stop.item ≡ Some work
  pub place : stop.place ≡ work.place
  pub device : stop.device.number ≡ work.device
  pub asks : asked (s.condition stop.item) ≡ Some (request_of (side_of stop.on_host) stop.action)

-- the run by these choices comes to an event that fails, though there is room, and this action is that event
pub record IsStop (p : Program) (input choices turns : List ℕ) (capacity : ℕ) (stop : Stop) : Type 0 where
  pub failed : IsFailed p input choices turns capacity
  pub coming : IsComing (plan p) failed.now failed.event stop
