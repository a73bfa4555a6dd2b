use Rattle.ranges.specs.Cells.{has}
use Rattle.ranges.specs.RunLists.{AreRunsUpTo}
use Rattle.ranges.proofs.cells.CellSet.runs.Given as goal

abbrev pub invariant-arrays : goal.invariant-arrays
invariant-arrays l = AreRunsUpTo (has l.self) l.a 0 l.runs.items
