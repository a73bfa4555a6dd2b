use Rattle.std.proofs.Common.{refl, sym, ◌∙◌}
use Rattle.std.specs.Prelude.{◌&&◌, ◌||◌}
use Rattle.ranges.specs.Cells.{is_among}
use Rattle.ranges.specs.Seen.{seen_in}
use Rattle.ranges.proofs.Noted.{write_noted}
use Rattle.ranges.proofs.Outcomes.{ok_end}
use Rattle.ranges.proofs.state.Walk.note_write.Goals as goal

pub returns : goal.returns
returns c =
    let s = seen_in c.args.self.now in
    ok_end c.note_written.result _ _ _
    (write_noted c.args.lengths.now c.args.array c.args.place c.args.cells c.args.certain c.both.result s
    (λ d. s.write d || is_among c.args.array c.args.cells d) (λ d. s.sure d || (c.both.result && is_among c.args.array c.args.cells d))
    (sym c.leaves.ensures ∙ c.if-leaves.false) c.both.ensures refl refl)
    c.note_written.ensures
