use Rattle.std.proofs.Common.{◌≡◌, ◌<◌, false}
use Rattle.base.specs.declared.item.Cell.{Cell}
use Rattle.ranges.specs.Cells.{has}
use Rattle.ranges.proofs.cells.CellSet.first.Given as goal

abbrev pub invariant-arrays : goal.invariant-arrays
invariant-arrays l = (c : Cell) → c.array.0 < l.a → has l.self c ≡ false
