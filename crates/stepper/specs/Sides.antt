-- A run of the fine-grained machine as a machine whose items run side by side.
use Rattle.machine.specs.Board.{Move}
use Rattle.machine.specs.Board.Move.{Gen, Open, Step, Close, Wait}
use Rattle.machine.specs.Machine.{Parts}
use Rattle.base.specs.Items.{plan}
use Rattle.two_memories.specs.Two.{Spot}
use Rattle.fine_headline.specs.FineState.{event_of, parts}
use Rattle.stepper.specs.declared.sides.Turn.{Turn}
use Rattle.stepper.specs.declared.sides.Turn.TheVariants as turn
use Rattle.stepper.specs.Run.{IsBegun, IsGoing, IsReached, Run, Takes, fine_of}

-- what a turn is to which item
abbrev pub move_of : Turn → Move
move_of (turn.Gen i) = Gen i
move_of (turn.Open i) = Open i
move_of (turn.Step i) = Step i
move_of (turn.Close i) = Close i
move_of (turn.Wait i) = Wait i

-- runs, of which proofs see what they see of the fine-grained machine. A run that a fault has stopped is seen where its
-- last event would have led, and nothing more may happen in it
abbrev pub run_parts : Parts Run Spot
run_parts = record {
  Value = parts.Value;
  Own = parts.Own;
  Host = parts.Host;
  Fixed = parts.Fixed;
  fixed = λ r. parts.fixed (fine_of r);
  plan = parts.plan;
  board = λ r. parts.board (fine_of r);
  value = λ r. parts.value (fine_of r);
  own = λ r. parts.own (fine_of r);
  host = λ r. parts.host (fine_of r);
  failed = λ r. parts.failed (fine_of r);
  starts = IsBegun;
  valid = IsReached;
  enabled = λ r m. IsGoing r × parts.enabled (fine_of r) m;
  step = λ r m. Takes r (event_of (plan r.program) m);
}
