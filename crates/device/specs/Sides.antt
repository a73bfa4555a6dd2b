-- A run as a machine whose items run side by side.
use Rattle.std.specs.Prelude.{◌≡◌, false, [], Option, Some, None}
use Rattle.base.specs.declared.fault.RunFault.{RunFault}
use Rattle.base.specs.declared.item.Event.{Event}
use Rattle.base.specs.Items.{plan}
use Rattle.machine.specs.Board.{Move}
use Rattle.machine.specs.Board.Move.{Gen, Open, Close, Wait}
use Rattle.machine.specs.Machine.{Parts}
use Rattle.two_memories.specs.Two.{Spot, Two, event_of, parts}
use Rattle.device.specs.declared.turns.Turn.{Turn}
use Rattle.device.specs.declared.turns.Turn.TheVariants as turn
use Rattle.device.specs.Run.{Run, fill_in, state_of}
use Rattle.device.specs.Running.{IsReached}
use Rattle.device.specs.Taking.{IsEventFault, Takes}

-- what a turn is to which item
abbrev pub move_of : Turn → Move
move_of (turn.Gen i) = Gen i
move_of (turn.Open i) = Open i
move_of (turn.Close i) = Close i
move_of (turn.Wait i) = Wait i

-- the state of the two-memory machine after the run
abbrev pub two_of : Run → Two
two_of r = record {
  fixed = record { plan = plan r.program; fill = fill_in r };
  state = state_of r;
  failed = false;
}

-- the event is done, if it is one
abbrev pub Steps : Run → Option Event → Run → Type 0
Steps r None t = ⊥
Steps r (Some e) t = Takes r e t

-- why the event is not done, if it is one
abbrev pub IsStepFault : Run → Option Event → RunFault → Type 0
IsStepFault r None f = ⊥
IsStepFault r (Some e) f = IsEventFault r e f

-- nothing was done yet
pub record IsBegun (r : Run) : Type 0 where
  pub reached : IsReached r
  pub history : r.history ≡ []

-- runs of accepted programs, of which proofs see what they see of the two-memory machine
abbrev pub run_parts : Parts Run Spot
run_parts = record {
  Value = parts.Value;
  Own = parts.Own;
  Host = parts.Host;
  Fixed = parts.Fixed;
  fixed = λ r. parts.fixed (two_of r);
  plan = parts.plan;
  board = λ r. parts.board (two_of r);
  value = λ r. parts.value (two_of r);
  own = λ r. parts.own (two_of r);
  host = λ r. parts.host (two_of r);
  failed = λ r. parts.failed (two_of r);
  starts = IsBegun;
  valid = IsReached;
  enabled = λ r. parts.enabled (two_of r);
  step = λ r e. Steps r (event_of (plan r.program) e);
}
