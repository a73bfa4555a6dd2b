use Rattle.std.proofs.Common.{sym, ◌∙◌}
use Rattle.std.proofs.lemmas.List.{at_drop_all}
use Rattle.ranges.specs.Seen.{after, seen_in}
use Rattle.ranges.specs.Straight.{touches_at}
use Rattle.ranges.proofs.StraightTouches.{next_noted}
use Rattle.ranges.proofs.state.Walk.note_all.Goals as goal

pub loop-access-preserved : goal.loop-access-preserved
loop-access-preserved c =
    next_noted c.args.lengths.now c.args.accesses.now c.loop-access.access-index c.access-item.result c.args.loops.now
    c.args.certain (seen_in c.loop-access.self) (seen_in c.note.new.self) c.loop-access-test.true c.access-item.is
    c.in_ok-note.ensures
    ∙ c.loop-access.invariant

pub returns : goal.returns
returns c =
    sym (at_drop_all (λ xs. after c.args.lengths.now (touches_at xs c.args.loops.now c.args.certain) (seen_in c.loop-access.self))
    c.args.accesses.now c.loop-access.access-index c.loop-access-test.false)
    ∙ c.loop-access.invariant
