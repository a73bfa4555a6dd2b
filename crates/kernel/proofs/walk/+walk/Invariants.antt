use Rattle.std.proofs.Common.{◌-◌}
use Rattle.kernel.specs.Walks.{list_meaning, loop_meaning}
use Rattle.kernel.proofs.Walking.{Leaves, from_on, turns_from}
use Rattle.kernel.proofs.walk.+walk.Given as goal

abbrev pub invariant-walk-loop-s : goal.invariant-walk-loop-s
invariant-walk-loop-s l = Leaves (list_meaning l.all) (from_on l.all l.s-index) l.initial.m l.m

abbrev pub invariant-in_turns-turns : goal.invariant-in_turns-turns
invariant-in_turns-turns l = Leaves (loop_meaning l.bounds l.body) (turns_from l.bounds l.body l.v) l.initial.m l.m

abbrev pub decreases-in_turns-turns : goal.decreases-in_turns-turns
decreases-in_turns-turns l = l.bounds.end - l.v
