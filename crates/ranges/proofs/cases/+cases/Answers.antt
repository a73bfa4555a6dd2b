use Rattle.ranges.proofs.CaseSlides.{added_If}
use Rattle.ranges.proofs.SettledStatements.{if_ok}
use Rattle.ranges.proofs.cases.+cases.Goals as goal

pub add_stmt-returns-else-not-branch-2 : goal.add_stmt-returns-else-not-branch-2
add_stmt-returns-else-not-branch-2 t c =
    let turns = c.args.turns.now in
    if_ok c.add_unless-in-If.result _ _ c.add_unless-in-If.ensures
    (λ b h k. added_If turns.lengths.now turns.loops.now turns.bounds c.args.s.now c.in-If.c c.in-If.first c.in-If.second
    c.deref-in-If.result.now c.deref-in-If-2.result.now turns.here.now c.interval-known.result c.args.certain
    c.is_zero-fails.result c.is_nonzero-holds.result c.both.result c.both-in-If.result c.args.slides.now.items
    c.add_reads-in-If.new.slides.items c.add_unless.new.slides.items c.add_unless-in-If.new.slides.items
    c.in-If.is c.deref-in-If.ensures.value c.deref-in-If-2.ensures.value turns.values c.interval-known.ensures.value
    c.is_zero-fails.ensures c.is_nonzero-holds.ensures c.both.ensures c.both-in-If.ensures
    (c.is_steady.ensures c.if-not-is_steady.false) (c.in_ok-add_reads-in-If.ensures c.if-not-branch.false)
    (c.in_ok-add_unless-in-If.ensures c.if-not-branch-2.false) (h k))
