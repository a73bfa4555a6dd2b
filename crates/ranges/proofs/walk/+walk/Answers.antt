use Rattle.std.proofs.Common.{◌≡◌, ℕ, ◌+◌, List, ◌++◌, ◌∷◌, [], sym, subst, ◌∙◌, ap, arith, rules}
use Rattle.std.proofs.lemmas.Grind.{common_steps}
use Rattle.base.specs.Interval.{interval}
use Rattle.base.specs.Footprint.{expr_touches}
use Rattle.ranges.specs.Seen.{after, seen_in, turns_from}
use Rattle.ranges.specs.Settled.{AllSettled}
use Rattle.ranges.proofs.Outcomes.{ok_end}
use Rattle.ranges.proofs.FirstTurns.{told_Loop}
use Rattle.ranges.proofs.SettledTouches.{all_noop}
use Rattle.ranges.proofs.Walked.{walked_If, walked_next, walked_turn, no_turn_touches}
use Rattle.ranges.proofs.Touches.{touches_Block}
use Rattle.ranges.proofs.walk.+walk.Goals as goal

pub walk_stmt-returns-in-Loop-clause-seen : goal.walk_stmt-returns-in-Loop-clause-seen
walk_stmt-returns-in-Loop-clause-seen t c =
    ok_end _ _ _ _
    (told_Loop c.args.lengths.now c.args.s.now c.in-Loop.bounds c.telling_turns-telling.result c.in-Loop.body _ _
    c.args.loops.now.items c.args.certain (seen_in c.args.walk.now) c.len.result c.in-Loop.is
    c.deref-in-Loop.ensures.value c.deref-in-Loop-2.ensures.value (search rules) c.telling_turns-telling.ensures)
    c.walk_loop.ensures.seen

pub walk_all-loop-s-preserved : goal.walk_all-loop-s-preserved
walk_all-loop-s-preserved t c = record {
  loops = c.in_ok-walk_stmt.ensures.loops ∙ c.loop-s.invariant.loops;
  rest =
      walked_next c.args.lengths.now c.args.all.now c.loop-s.s-index c.s-item.result c.args.loops.now.items
      c.loop-s.loops.items c.args.certain (seen_in c.loop-s.walk) (seen_in c.walk_stmt.new.walk)
      (omega arith) c.s-item.is c.loop-s.invariant.loops c.in_ok-walk_stmt.ensures.seen
      ∙ c.loop-s.invariant.rest;
}

pub walk_turns-loop-v-preserved : goal.walk_turns-loop-v-preserved
walk_turns-loop-v-preserved t c = record {
  loops = grind (arith, common_steps);
  rest =
      walked_turn c.args.lengths.now c.loop-v.v c.args.bounds c.args.body.now c.args.loops.now.items
      c.push.new.self.items c.args.certain (seen_in c.loop-v.walk) (seen_in c.walk_all.new.walk)
      c.loop-v-test.true (c.in_ok-push.ensures.items ∙ ap (λ ls. ls ++ c.loop-v.v ∷ []) c.loop-v.invariant.loops)
      c.in_ok-walk_all.ensures.seen
      ∙ c.loop-v.invariant.rest;
}

pub walk_turns-returns-clause-seen : goal.walk_turns-returns-clause-seen
walk_turns-returns-clause-seen t c =
    sym (ap (λ ts. after c.args.lengths.now ts (seen_in c.loop-v.walk))
    (no_turn_touches c.loop-v.v c.args.bounds c.args.body.now c.args.loops.now.items c.args.certain
    c.loop-v-test.false))
    ∙ c.loop-v.invariant.rest

pub walk_stmt-returns-in_ok-walk_unless-in-If-clause-seen :
    goal.walk_stmt-returns-in_ok-walk_unless-in-If-clause-seen
walk_stmt-returns-in_ok-walk_unless-in-If-clause-seen t c =
    ok_end _ _ _ _
    (walked_If c.args.lengths.now c.args.s.now c.in-If.c c.in-If.first c.in-If.second c.args.loops.now.items
    c.args.certain (seen_in c.args.walk.now)
    c.interval-known.result c.is_zero-fails.result c.is_nonzero-holds.result c.both.result c.both-in-If.result
    c.deref-in-If-3.result.now
    c.deref-in-If-4.result.now c.walk_unless.new.loops.items (seen_in c.walk_expr-in-If.new.walk) (seen_in c.walk_unless.new.walk)
    c.in-If.is c.deref-in-If-3.ensures.value c.deref-in-If-4.ensures.value
    (c.interval-known.ensures.value ∙ ap (λ ls. interval c.in-If.c ls) c.deref-in-If-2.ensures.value)
    c.is_zero-fails.ensures c.is_nonzero-holds.ensures c.both.ensures c.both-in-If.ensures
    c.in_ok-walk_unless-in-If.ensures.loops
    (c.in_ok-walk_expr-in-If.ensures
    ∙ ap (λ ls. after c.args.lengths.now (expr_touches c.in-If.c ls c.args.certain) (seen_in c.args.walk.now))
    c.deref-in-If.ensures.value)
    c.in_ok-walk_unless-in-If.ensures.seen)
    c.walk_unless-in-If.ensures.seen

pub walk_all-returns-clause-seen : goal.walk_all-returns-clause-seen
walk_all-returns-clause-seen t c = grind (arith, common_steps)

pub walk_stmt-returns-in-Block-clause-seen : goal.walk_stmt-returns-in-Block-clause-seen
walk_stmt-returns-in-Block-clause-seen t c = grind (arith, touches_Block)

pub walk_turns-returns-then-branch-clause-seen : goal.walk_turns-returns-then-branch-clause-seen
walk_turns-returns-then-branch-clause-seen t c =
    let lengths = c.args.lengths.now in
    let b = c.args.bounds in
    let v = c.loop-v.v in
    let loops = c.args.loops.now.items in
    let seen = seen_in c.walk_all.new.walk in
    let same : c.deref.result.now ≡ loops = grind (arith, common_steps) in
    sym (all_noop lengths (turns_from (v + b.step) b c.args.body.now loops c.args.certain) seen c.walk_all.new.walk.known
    (subst (λ (ls : List ℕ). AllSettled lengths seen (turns_from (v + b.step) b c.args.body.now ls c.args.certain)) same
    (c.in_ok-settles_rest.ensures c.if-branch.true)))
    ∙ walked_turn lengths v b c.args.body.now loops c.push.new.self.items c.args.certain (seen_in c.loop-v.walk) seen
    c.loop-v-test.true (c.in_ok-push.ensures.items ∙ ap (λ ls. ls ++ v ∷ []) c.loop-v.invariant.loops)
    c.in_ok-walk_all.ensures.seen
    ∙ c.loop-v.invariant.rest
