use Rattle.std.proofs.Common.{◌-◌, length}
use Rattle.stepper.proofs.Plays.{Plays}
use Rattle.stepper.proofs.stops.stop_of.Given as goal

abbrev pub invariant-loop-event : goal.invariant-loop-event
invariant-loop-event l = Plays l.outlined l.input l.choices l.turns l.capacity l.run

abbrev pub decreases-loop-event : goal.decreases-loop-event
decreases-loop-event l = 18446744073709551616 - length l.run.history
