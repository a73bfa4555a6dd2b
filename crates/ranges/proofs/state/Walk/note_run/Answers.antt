use Rattle.std.proofs.Common.{sym, ap}
use Rattle.std.specs.Prelude.{cond}
use Rattle.ranges.specs.Seen.{seen_in}
use Rattle.ranges.specs.Slides.{is_in_turn, with_read_of, with_written}
use Rattle.ranges.proofs.Outcomes.{ok_end}
use Rattle.ranges.proofs.state.Walk.note_run.Goals as goal

pub returns-then-slide : goal.returns-then-slide
returns-then-slide c =
    let x = seen_in c.args.self.now in
    let p = is_in_turn c.args.slide.array c.args.cells in
    ok_end c.write_turns.result _ _ _
    (sym (ap (λ w. cond w (with_written c.args.slide.certain p x) (with_read_of p x)) c.if-slide.true))
    c.write_turns.ensures

pub returns-else-slide : goal.returns-else-slide
returns-else-slide c =
    let x = seen_in c.args.self.now in
    let p = is_in_turn c.args.slide.array c.args.cells in
    ok_end c.read_turns.result _ _ _
    (sym (ap (λ w. cond w (with_written c.args.slide.certain p x) (with_read_of p x)) c.if-slide.false))
    c.read_turns.ensures
