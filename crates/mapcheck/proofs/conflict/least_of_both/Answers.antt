use Rattle.std.proofs.Common.{ap₂}
use Rattle.std.specs.Prelude.{◌&&◌}
use Rattle.bits.specs.Sets.{has as has_number}
use Rattle.ranges.specs.Cells.{has}
use Rattle.ranges.proofs.FirstCells.{least_in_row}
use Rattle.mapcheck.proofs.conflict.least_of_both.Goals as goal

pub returns-in-Some : goal.returns-in-Some
returns-in-Some c =
    least_in_row (λ d. has c.args.left.now d && has c.args.right.now d) c.arrays.a
    (λ j. has_number c.row.result.now j && has_number c.row-in-arrays.result.now j)
    (λ j. ap₂ (λ s t. has_number s j && has_number t j) c.row.ensures c.row-in-arrays.ensures)
    c.arrays.invariant c.in-Some.i c.in-Some.ensures
