use Rattle.std.proofs.Common.{◌-◌}
use Rattle.actions.specs.Control.{Begun, all_turns}
use Rattle.actions.specs.Strand.{run_of}
use Rattle.actions.proofs.fork.begin_turns.Given as goal

abbrev pub invariant-turns : goal.invariant-turns
invariant-turns l =
    Begun (run_of l.from) (all_turns l.kernel) l.kernel.next l.next l.initial.turns.items l.turns.items

abbrev pub decreases-turns : goal.decreases-turns
decreases-turns l = l.count - l.next
