use Rattle.std.proofs.Common.{ℕ, List, subst, ap, ◌∙◌, arith, take}
use Rattle.std.proofs.Math.Seq.{take-length}
use Rattle.base.specs.declared.tree.Stmt.{Stmt}
use Rattle.base.specs.Footprint.{stmt_touches}
use Rattle.ranges.specs.Seen.{list_touches, seen_in}
use Rattle.ranges.specs.Settled.{Settles}
use Rattle.ranges.proofs.SettledStatements.{if_ok, settles_Block, settles_If, settles_Loop, settles_more, settles_no_turn, settles_turns}
use Rattle.ranges.proofs.state.Walk.+settles.Goals as goal

pub settles_stmt-returns-then-bounds-clause-settles : goal.settles_stmt-returns-then-bounds-clause-settles
settles_stmt-returns-then-bounds-clause-settles t c h =
    settles_no_turn c.args.lengths.now (seen_in c.args.self.now) c.args.span.now.lows.items c.args.span.now.highs.items
    c.args.certain c.args.s.now c.in-Loop.bounds c.in-Loop.body c.in-Loop.is c.if-bounds.true

pub settles_stmt-returns-in-Block-clause-settles : goal.settles_stmt-returns-in-Block-clause-settles
settles_stmt-returns-in-Block-clause-settles t c =
    if_ok c.settles_all.result _ _ c.settles_all.ensures.settles
    (λ b h k. settles_Block c.args.lengths.now (seen_in c.args.self.now) c.args.span.now.lows.items c.args.span.now.highs.items
    c.args.certain c.args.s.now c.in-Block.all c.deref.result.now c.in-Block.is c.deref.ensures.value (h k))

pub settles_stmt-returns-else-bounds-clause-settles : goal.settles_stmt-returns-else-bounds-clause-settles
settles_stmt-returns-else-bounds-clause-settles t c =
    if_ok c.settles_turns.result _ _ c.settles_turns.ensures.settles
    (λ b h k. settles_Loop c.args.lengths.now (seen_in c.args.self.now) c.args.span.now.lows.items c.args.span.now.highs.items
    c.args.certain c.args.s.now c.in-Loop.bounds c.in-Loop.body c.deref-in-Loop.result.now c.in-Loop.is c.deref-in-Loop.ensures.value (h k))

pub settles_turns-returns-clause-settles : goal.settles_turns-returns-clause-settles
settles_turns-returns-clause-settles t c holds =
    settles_turns c.args.lengths.now (seen_in c.args.self.now) c.args.span.now.lows.items c.args.span.now.highs.items
    c.args.certain c.args.bounds c.args.body.now c.push.new.self.lows.items c.push.new.self.highs.items
    c.in_ok-push.ensures.lows c.in_ok-push.ensures.highs (c.in_ok-settled.ensures.settles holds)

pub settles_all-loop-s-preserved : goal.settles_all-loop-s-preserved
settles_all-loop-s-preserved t c = record {
  lows = c.in_ok-settles_stmt.ensures.lows ∙ c.loop-s.invariant.lows;
  highs = c.in_ok-settles_stmt.ensures.highs ∙ c.loop-s.invariant.highs;
  all = settles_more c.args.lengths.now (seen_in c.args.self.now) c.args.span.now.lows.items c.args.span.now.highs.items
      c.args.certain c.args.all.now c.loop-s.s-index c.s-item.result c.loop-s-test.true c.s-item.is c.loop-s.invariant.all
      (subst (λ (xs : List ℕ). Settles c.args.lengths.now (seen_in c.args.self.now) xs c.args.span.now.highs.items c.args.certain (stmt_touches c.s-item.result))
      c.loop-s.invariant.lows
      (subst (λ (xs : List ℕ). Settles c.args.lengths.now (seen_in c.args.self.now) c.loop-s.span.lows.items xs c.args.certain (stmt_touches c.s-item.result))
      c.loop-s.invariant.highs
      (c.in_ok-settles_stmt.ensures.settles c.if-not-branch.false)));
}

pub settles_all-returns-clause-settles : goal.settles_all-returns-clause-settles
settles_all-returns-clause-settles t c holds =
    subst (λ (xs : List Stmt). Settles c.args.lengths.now (seen_in c.args.self.now) c.args.span.now.lows.items c.args.span.now.highs.items c.args.certain (list_touches xs))
    (ap (λ n. take n c.args.all.now) (omega (arith, c.loop-s-test.false, c.loop-s.auto.s-index-end)) ∙ take-length c.args.all.now) c.loop-s.invariant.all

pub settles_stmt-returns-in_ok-settles_unless-in-If-2-clause-settles :
    goal.settles_stmt-returns-in_ok-settles_unless-in-If-2-clause-settles
settles_stmt-returns-in_ok-settles_unless-in-If-2-clause-settles t c holds =
    let lengths = c.args.lengths.now in
    let seen = seen_in c.args.self.now in
    let lows = c.args.span.now.lows.items in
    let highs = c.args.span.now.highs.items in
    settles_If lengths seen lows highs c.args.certain c.args.s.now c.in-If.c c.in-If.first c.in-If.second
    c.deref-in-If.result.now c.deref-then-branch.result.now c.told_of-told.result c.both.result c.both-then-branch.result
    c.in-If.is c.deref-in-If.ensures.value c.deref-then-branch.ensures.value c.told_of-told.ensures c.both.ensures c.both-then-branch.ensures
    (c.settles_expr-in-If.ensures c.if-not-settles_expr.false)
    (c.in_ok-settles_unless-in-If.ensures.settles c.if-branch.true)
    (λ e. subst (λ (xs : List ℕ). Settles lengths seen xs highs c.both-then-branch.result (list_touches c.deref-then-branch.result.now))
    c.in_ok-settles_unless-in-If.ensures.lows
    (subst (λ (xs : List ℕ). Settles lengths seen c.settles_unless.new.span.lows.items xs c.both-then-branch.result (list_touches c.deref-then-branch.result.now))
    c.in_ok-settles_unless-in-If.ensures.highs
    (c.in_ok-settles_unless-in-If-2.ensures.settles holds e)))
