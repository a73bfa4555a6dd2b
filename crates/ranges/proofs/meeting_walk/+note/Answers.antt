use Rattle.std.proofs.Common.{◌++◌, ◌∷◌, [], true, sym, ◌∙◌, ap, arith}
use Rattle.std.proofs.lemmas.Grind.{common_steps}
use Rattle.base.specs.Interval.{interval}
use Rattle.base.specs.Footprint.{expr_touches}
use Rattle.ranges.specs.Ways.{after_uses, noted_in}
use Rattle.ranges.proofs.Outcomes.{ok_end}
use Rattle.ranges.proofs.Walked.{no_turn_touches}
use Rattle.ranges.proofs.Touches.{touches_Block}
use Rattle.ranges.proofs.TurnUses.{used_If, used_Loop, used_next, used_turn}
use Rattle.ranges.proofs.meeting_walk.+note.Goals as goal

pub note_stmt-returns-in-Loop-clause-noted : goal.note_stmt-returns-in-Loop-clause-noted
note_stmt-returns-in-Loop-clause-noted t c =
    ok_end _ _ _ _
    (used_Loop c.args.lengths.now c.args.adds c.args.s.now c.in-Loop.bounds c.in-Loop.body _ c.args.loops.now.items
    (noted_in c.args.meetings.now) c.in-Loop.is c.deref-in-Loop.ensures.value)
    c.note_loop.ensures.noted

pub note_all-loop-s-preserved : goal.note_all-loop-s-preserved
note_all-loop-s-preserved t c = record {
  loops = c.in_ok-note_stmt.ensures.loops ∙ c.loop-s.invariant.loops;
  rest =
      used_next c.args.lengths.now c.args.adds c.args.all.now c.loop-s.s-index c.s-item.result c.args.loops.now.items
      c.loop-s.loops.items (noted_in c.loop-s.meetings) (noted_in c.note_stmt.new.meetings)
      (omega arith) c.s-item.is c.loop-s.invariant.loops c.in_ok-note_stmt.ensures.noted
      ∙ c.loop-s.invariant.rest;
}

pub note_loop-loop-v-preserved : goal.note_loop-loop-v-preserved
note_loop-loop-v-preserved t c = record {
  loops = grind (arith, common_steps);
  rest =
      used_turn c.args.lengths.now c.args.adds c.loop-v.v c.args.bounds c.args.body.now c.args.loops.now.items
      c.push.new.self.items (noted_in c.loop-v.meetings) (noted_in c.note_all.new.meetings)
      c.loop-v-test.true (c.in_ok-push.ensures.items ∙ ap (λ ls. ls ++ c.loop-v.v ∷ []) c.loop-v.invariant.loops)
      c.in_ok-note_all.ensures.noted
      ∙ c.loop-v.invariant.rest;
}

pub note_loop-returns-clause-noted : goal.note_loop-returns-clause-noted
note_loop-returns-clause-noted t c =
    sym (ap (λ ts. after_uses c.args.lengths.now c.args.adds ts (noted_in c.loop-v.meetings))
    (no_turn_touches c.loop-v.v c.args.bounds c.args.body.now c.args.loops.now.items true c.loop-v-test.false))
    ∙ c.loop-v.invariant.rest

pub note_stmt-returns-in_ok-note_unless-in-If-clause-noted :
    goal.note_stmt-returns-in_ok-note_unless-in-If-clause-noted
note_stmt-returns-in_ok-note_unless-in-If-clause-noted t c =
    ok_end _ _ _ _
    (used_If c.args.lengths.now c.args.adds c.args.s.now c.in-If.c c.in-If.first c.in-If.second c.args.loops.now.items
    (noted_in c.args.meetings.now) c.interval-known.result c.is_zero.result c.is_nonzero.result
    c.deref-in-If-3.result.now c.deref-in-If-4.result.now c.note_unless.new.loops.items
    (noted_in c.note_expr-in-If.new.meetings) (noted_in c.note_unless.new.meetings)
    c.in-If.is c.deref-in-If-3.ensures.value c.deref-in-If-4.ensures.value
    (c.interval-known.ensures.value ∙ ap (λ ls. interval c.in-If.c ls) c.deref-in-If-2.ensures.value)
    c.is_zero.ensures c.is_nonzero.ensures
    c.in_ok-note_unless-in-If.ensures.loops
    (c.in_ok-note_expr-in-If.ensures
    ∙ ap (λ ls. after_uses c.args.lengths.now c.args.adds (expr_touches c.in-If.c ls true) (noted_in c.args.meetings.now))
    c.deref-in-If.ensures.value)
    c.in_ok-note_unless-in-If.ensures.noted)
    c.note_unless-in-If.ensures.noted

pub note_all-returns-clause-noted : goal.note_all-returns-clause-noted
note_all-returns-clause-noted t c = grind (arith, common_steps)

pub note_stmt-returns-in-Block-clause-noted : goal.note_stmt-returns-in-Block-clause-noted
note_stmt-returns-in-Block-clause-noted t c = grind (arith, touches_Block)
