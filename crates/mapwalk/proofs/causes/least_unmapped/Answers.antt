use Rattle.std.proofs.Common.{ap₂}
use Rattle.std.specs.Prelude.{◌&&◌, ◌||◌, not}
use Rattle.std.specs.List.{list_any}
use Rattle.base.specs.Memory.{is_in}
use Rattle.bits.specs.Sets.{has as has_number}
use Rattle.ranges.specs.Cells.{has}
use Rattle.ranges.proofs.FirstCells.{least_in_row}
use Rattle.mapwalk.proofs.causes.least_unmapped.Goals as goal

pub returns-in-Some : goal.returns-in-Some
returns-in-Some c =
    least_in_row (λ d. (has c.args.f.now.read d || has c.args.f.now.write d) && not (list_any (λ m. is_in d m.section) c.args.maps.now))
    c.arrays.a
    (λ j. (has_number c.row.result.now j || has_number c.row-in-arrays.result.now j)
    && not (list_any (λ m. is_in (record { array = record { 0 = c.arrays.a }; index = j }) m.section) c.args.maps.now))
    (λ j. ap₂ (λ r w. (has_number r j || has_number w j)
    && not (list_any (λ m. is_in (record { array = record { 0 = c.arrays.a }; index = j }) m.section) c.args.maps.now))
    c.row.ensures c.row-in-arrays.ensures)
    c.arrays.invariant c.in-Some.i c.in-Some.ensures
