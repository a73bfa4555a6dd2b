use Rattle.std.proofs.Common.{◌≡◌, ◌<◌, false}
use Rattle.std.specs.Prelude.{◌&&◌}
use Rattle.base.specs.declared.item.Cell.{Cell}
use Rattle.ranges.specs.Cells.{has}
use Rattle.mapcheck.proofs.conflict.least_of_both.Given as goal

abbrev pub invariant-arrays : goal.invariant-arrays
invariant-arrays l = (c : Cell) → c.array.0 < l.a → (has l.left c && has l.right c) ≡ false
