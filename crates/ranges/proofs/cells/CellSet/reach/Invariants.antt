use Rattle.std.proofs.Common.{◌≡◌, ◌+◌, ◌-◌, length}
use Rattle.ranges.specs.Cells.{has}
use Rattle.ranges.proofs.cells.CellSet.reach.Given as goal

abbrev pub invariant-loop-array : goal.invariant-loop-array
invariant-loop-array l = has l.self ≡ has l.fn.self

abbrev pub decreases-loop-array : goal.decreases-loop-array
decreases-loop-array l = l.array.0 + 1 - length l.self.rows.items
