use Rattle.std.proofs.Common.{◌-◌}
use Rattle.ranges.specs.Cells.{has}
use Rattle.ranges.specs.RunLists.{AreRunsUpTo}
use Rattle.ranges.proofs.cells.CellSet.add_runs.Given as goal

abbrev pub invariant-loop-first : goal.invariant-loop-first
invariant-loop-first l = AreRunsUpTo (has l.self) l.array.0 l.from l.runs.items

abbrev pub decreases-loop-first : goal.decreases-loop-first
decreases-loop-first l = l.end - l.from
