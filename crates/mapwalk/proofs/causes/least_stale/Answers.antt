use Rattle.std.proofs.Common.{get_or, sym, ap₂}
use Rattle.std.specs.Prelude.{◌&&◌, not}
use Rattle.bits.specs.Sets.{has as has_number}
use Rattle.ranges.specs.Cells.{has}
use Rattle.mapwalk.specs.Current.{marks_in}
use Rattle.mapwalk.specs.Marks.{has_mark}
use Rattle.ranges.proofs.FirstCells.{least_in_row, none_in_row}
use Rattle.mapwalk.proofs.SideRows.{row_get}
use Rattle.mapwalk.proofs.causes.least_stale.Goals as goal

pub returns-in-Some : goal.returns-in-Some
returns-in-Some c =
    least_in_row (λ d. has c.args.exposed.now d && not (marks_in c.args.side.now d)) c.arrays.a
    (λ j. has_number c.row.result.now j && not (has_mark (get_or c.args.side.now c.arrays.a c.index-side-a.result) j))
    (λ j. ap₂ (λ s b. has_number s j && not b) c.row.ensures
    (sym (row_get c.args.side.now c.arrays.a c.index-side-a.result c.arrays-test.true j)))
    c.arrays.invariant c.in-Some.i c.in-Some.ensures

pub arrays-preserved : goal.arrays-preserved
arrays-preserved c =
    none_in_row (λ d. has c.args.exposed.now d && not (marks_in c.args.side.now d)) c.arrays.a
    (λ j. has_number c.row.result.now j && not (has_mark (get_or c.args.side.now c.arrays.a c.index-side-a.result) j))
    (λ j. ap₂ (λ s b. has_number s j && not b) c.row.ensures
    (sym (row_get c.args.side.now c.arrays.a c.index-side-a.result c.arrays-test.true j)))
    c.arrays.invariant c.in_default.ensures
