-- Room on the devices throughout a run.
use Rattle.std.specs.Prelude.{ℕ, ◌<◌, ◌≤◌, List, Some, take}
use Rattle.base.specs.declared.item.Answer.{Answer}
use Rattle.base.specs.declared.item.Event.{Event}
use Rattle.base.specs.declared.tree.Program.{Program}
use Rattle.base.specs.Headline.{IsFill}
use Rattle.base.specs.Items.{plan}
use Rattle.base.specs.Machine.{State, RunFrom}
use Rattle.base.specs.Map.{Fill, in_use}
use Rattle.device.specs.Devices.{device_count}
use Rattle.device.specs.Run.{Run, fill_in}

-- these events are a run, and after them no device has more cells in use than there is room for
pub record HasRoomAfter (p : Program) (fill : ℕ → Fill) (input : List ℕ) (capacity : ℕ) (events : List Event) : Type 0 where
  pub state : State
  pub ran : RunFrom (plan p) fill input events (Some state)
  pub room : (d : ℕ) → d < device_count → in_use (state.memories.devices d).blocks ≤ capacity

-- the same after each of these events
abbrev pub StaysWithin : Program → (ℕ → Fill) → List ℕ → ℕ → List Event → Type 0
StaysWithin p fill input capacity events = (k : ℕ) → HasRoomAfter p fill input capacity (take k events)

abbrev pub HasStayed : Run → Type 0
HasStayed r = StaysWithin r.program (fill_in r) r.input r.capacity r.history

-- after none of the events of an answer had a device more cells in use than there is room for
pub record IsAnswerWithin (p : Program) (input : List ℕ) (capacity : ℕ) (a : Answer) : Type 0 where
  pub fill : ℕ → Fill
  pub is_fill : IsFill fill
  pub stays : StaysWithin p fill input capacity a.history.items
