use Rattle.std.proofs.Common.{◌<◌, length, get_or, sym, ap, ◌∙◌, arith}
use Rattle.std.specs.Prelude.{◌&&◌, not}
use Rattle.bits.specs.Sets.{has as has_number}
use Rattle.ranges.specs.Cells.{has, row_of}
use Rattle.mapwalk.specs.Current.{marks_at, marks_in, with_cut}
use Rattle.mapwalk.specs.Marks.{has_mark}
use Rattle.mapwalk.proofs.SideRows.{far_cell, lengths_set, row_get, up_end, up_step}
use Rattle.mapwalk.proofs.current.cut_set.Goals as goal

pub arrays-preserved : goal.arrays-preserved
arrays-preserved c =
    let a = c.arrays.array in
    let there : a < length c.arrays.side = omega arith in
    let d = c.index-side-array.result in
    record {
      lengths = lengths_set c.arrays.side a c.take_away.new.self d c.take_away.ensures.length ∙ c.arrays.invariant.lengths;
      marks = up_step c.arrays.side a c.take_away.new.self (with_cut (has c.args.cells.now)) (marks_in c.args.side.now) there
          c.arrays.invariant.marks
          (λ x e same.
          c.take_away.ensures.marks x.index
          ∙ ap (λ s. not (has_number s x.index) && has_mark (get_or c.arrays.side a d) x.index)
          (c.row.ensures ∙ ap (row_of c.args.cells.now) (sym e))
          ∙ ap (λ b. not (has c.args.cells.now x) && b)
          (sym (row_get c.arrays.side a d there x.index) ∙ ap (λ k. marks_at c.arrays.side k x.index) (sym e) ∙ same));
    }

pub returns-clause-marks : goal.returns-clause-marks
returns-clause-marks c =
    up_end (marks_in c.arrays.side) (marks_in c.args.side.now) c.arrays.array (with_cut (has c.args.cells.now))
    c.arrays.invariant.marks
    (λ d e. ap (λ b. not b && marks_in c.args.side.now d) (sym (far_cell c.args.side.now (has c.args.cells.now) c.arrays.array d
    c.requires.inside c.arrays-test.false e)))
