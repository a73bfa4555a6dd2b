use Rattle.std.proofs.Common.{◌≤◌}
use Rattle.ranges.proofs.period.+period.Given as goal

abbrev pub invariant-period_in_all-loop-s : goal.invariant-period_in_all-loop-s
invariant-period_in_all-loop-s l = 1 ≤ l.period
