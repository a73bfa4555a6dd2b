use Rattle.std.proofs.Common.{drop}
use Rattle.ranges.proofs.StraightTouches.{AddsUpTo}
use Rattle.ranges.proofs.straight.accesses_of.Given as goal

abbrev pub invariant-loop-s : goal.invariant-loop-s
invariant-loop-s l = AddsUpTo l.accesses.items (drop l.s-index l.all) l.all
