use Rattle.std.proofs.Common.{ℕ, List, ◌+◌, ◌∙◌, refl, rules, sym, subst}
use Rattle.std.specs.Prelude.{slice_index}
use Rattle.std.proofs.lemmas.Result.{on_ok_weaker}
use Rattle.base.specs.declared.tree.Stmt.TheViews.{the_lemmas}
use Rattle.base.specs.declared.tree.Stmt.{Stmt}
use Rattle.kernel.specs.Forms.{IsForm}
use Rattle.kernel.specs.Walks.{HasDone, list_meaning, loop_meaning, stmt_meaning, turn_meaning}
use Rattle.kernel.proofs.Walking.{next_can, next_done, all_done, from_on, this_first, none_left, turns_from, turn_first, no_turn}
use Rattle.kernel.proofs.WalkedLoops.{loop_can, loop_done}
use Rattle.kernel.proofs.WalkedChoices.{block_can, block_done, choice_can, choice_done, first_can, first_done, second_can, second_done}
use Rattle.kernel.proofs.walk.+walk.Goals as goal

pub in_turns-in_turn-requires : goal.in_turns-in_turn-requires
in_turns-in_turn-requires t c =
    let b = c.args.bounds in
    let body = c.args.body.now in
    let v = c.turns.v in (
      search (rules, the_lemmas),
      next_can (loop_meaning b body) (turns_from b body v) (turn_meaning v body) (turns_from b body (v + b.step)) c.args.m.now
          c.turns.m (turn_first b body v c.turns-test.true) c.turns.invariant c.requires,
    )

pub in_turns-turns-preserved : goal.in_turns-turns-preserved
in_turns-turns-preserved t c =
    let b = c.args.bounds in
    let body = c.args.body.now in
    let v = c.turns.v in
    next_done (loop_meaning b body) (turns_from b body v) (turn_meaning v body) (turns_from b body (v + b.step)) c.args.m.now
    c.turns.m (turn_first b body v c.turns-test.true) c.turns.invariant c.in_turn.new.m c.in_ok-in_turn.ensures

pub in_turns-returns : goal.in_turns-returns
in_turns-returns t c =
    let b = c.args.bounds in
    let body = c.args.body.now in
    all_done (loop_meaning b body) (turns_from b body c.turns.v) c.args.m.now c.turns.m
    (no_turn b body c.turns.v c.turns-test.false) c.turns.invariant

pub walk-walk_one-requires : goal.walk-walk_one-requires
walk-walk_one-requires t c =
    let all = c.args.all.now in
    let k = c.loop-s.s-index in (
      search (rules, the_lemmas),
      next_can (list_meaning all) (from_on all k) (stmt_meaning c.s-item.result) (from_on all (k + 1)) c.args.m.now c.loop-s.m
          (this_first all k c.s-item.result c.loop-s-test.true c.s-item.is) c.loop-s.invariant c.requires,
    )

pub walk-loop-s-preserved : goal.walk-loop-s-preserved
walk-loop-s-preserved t c =
    let all = c.args.all.now in
    let k = c.loop-s.s-index in
    next_done (list_meaning all) (from_on all k) (stmt_meaning c.s-item.result) (from_on all (k + 1)) c.args.m.now c.loop-s.m
    (this_first all k c.s-item.result c.loop-s-test.true c.s-item.is) c.loop-s.invariant c.walk_one.new.m c.in_ok-walk_one.ensures

pub walk-returns : goal.walk-returns
walk-returns t c =
    let all = c.args.all.now in
    all_done (list_meaning all) (from_on all c.loop-s.s-index) c.args.m.now c.loop-s.m
    (none_left all c.loop-s.s-index c.loop-s-test.false) c.loop-s.invariant

pub walk_one-in_turns-requires : goal.walk_one-in_turns-requires
walk_one-in_turns-requires t c = (
  search (rules, the_lemmas),
  loop_can c.args.s.now c.in-Loop.bounds c.in-Loop.body _ c.args.m.now c.in-Loop.is c.deref-then-has_blocks_in_turns.ensures.value c.requires,
)

pub walk_one-returns-then-has_blocks_in_turns : goal.walk_one-returns-then-has_blocks_in_turns
walk_one-returns-then-has_blocks_in_turns t c =
    loop_done c.args.s.now c.in-Loop.bounds c.in-Loop.body _ c.args.m.now c.in-Loop.is c.deref-then-has_blocks_in_turns.ensures.value
    c.in_turns.new.m c.in_ok-in_turns.ensures

pub walk_one-in_blocks-requires-clause-form : goal.walk_one-in_blocks-requires-clause-form
walk_one-in_blocks-requires-clause-form t c =
    let form = c.in-Some.form in
    let numbers = c.deref-then-is_long-2.result.now in
    let loops = c.deref-then-is_long.result.now in
    let body = c.deref-in-Some.result.now in
    subst (λ (xs : List ℕ). IsForm (slice_index xs) c.args.m.now.loops.items body form) c.deref-then-is_long-2.ensures
    (subst (λ (ls : List ℕ). IsForm (slice_index numbers) ls body form) c.deref-then-is_long.ensures.value
    (subst (λ (all : List Stmt). IsForm (slice_index numbers) loops all form)
    (c.deref.ensures.value ∙ sym c.deref-in-Some.ensures.value) c.in-Some.ensures.form))

pub walk_one-in_blocks-requires-clause-can : goal.walk_one-in_blocks-requires-clause-can
walk_one-in_blocks-requires-clause-can t c =
    loop_can c.args.s.now c.in-Loop.bounds c.in-Loop.body _ c.args.m.now c.in-Loop.is c.deref-in-Some.ensures.value c.requires

pub walk_one-returns-in-Some : goal.walk_one-returns-in-Some
walk_one-returns-in-Some t c =
    loop_done c.args.s.now c.in-Loop.bounds c.in-Loop.body _ c.args.m.now c.in-Loop.is c.deref-in-Some.ensures.value
    c.in_blocks.new.m c.in_ok-in_blocks.ensures

pub walk_one-inside-requires : goal.walk_one-inside-requires
walk_one-inside-requires t c = (
  search (rules, the_lemmas),
  block_can c.args.s.now c.in-Block.all _ c.args.m.now c.in-Block.is c.deref-in-Block.ensures.value c.requires,
)

pub walk_one-returns-in-Block : goal.walk_one-returns-in-Block
walk_one-returns-in-Block t c =
    on_ok_weaker c.inside.result
    (block_done c.args.s.now c.in-Block.all _ c.args.m.now c.in-Block.is c.deref-in-Block.ensures.value c.inside.new.m)
    c.inside.ensures

pub walk_one-inside-requires-then-value_of-eq0 : goal.walk_one-inside-requires-then-value_of-eq0
walk_one-inside-requires-then-value_of-eq0 t c =
    let b = c.in-If in
    let m = c.args.m.now in (
      search (rules, the_lemmas),
      second_can b.c b.first.items c.deref-then-value_of-eq0.result.now m c.value_of.result c.value_of.ensures c.if-value_of-eq0.true
          (choice_can c.args.s.now b.c b.first b.second b.first.items _ m b.is refl c.deref-then-value_of-eq0.ensures.value c.requires),
    )

pub walk_one-returns-then-value_of-eq0 : goal.walk_one-returns-then-value_of-eq0
walk_one-returns-then-value_of-eq0 t c =
    let b = c.in-If in
    let m = c.args.m.now in
    let m' = c.inside-then-value_of-eq0.new.m in
    let ys = c.deref-then-value_of-eq0.result.now in
    on_ok_weaker c.inside-then-value_of-eq0.result
    (λ (h : HasDone (list_meaning ys) m m').
    choice_done c.args.s.now b.c b.first b.second b.first.items ys m b.is refl c.deref-then-value_of-eq0.ensures.value m'
    (second_done b.c b.first.items ys m c.value_of.result c.value_of.ensures c.if-value_of-eq0.true m' h))
    c.inside-then-value_of-eq0.ensures

pub walk_one-inside-requires-then-has_room : goal.walk_one-inside-requires-then-has_room
walk_one-inside-requires-then-has_room t c =
    let b = c.in-If in
    let m = c.args.m.now in (
      search (rules, the_lemmas),
      first_can b.c c.deref-then-has_room.result.now b.second.items m c.value_of.result c.value_of.ensures c.if-value_of-eq0.false
          (choice_can c.args.s.now b.c b.first b.second _ b.second.items m b.is c.deref-then-has_room.ensures.value refl c.requires),
    )

pub walk_one-returns-then-has_room : goal.walk_one-returns-then-has_room
walk_one-returns-then-has_room t c =
    let b = c.in-If in
    let m = c.args.m.now in
    let m' = c.inside-then-has_room.new.m in
    let xs = c.deref-then-has_room.result.now in
    on_ok_weaker c.inside-then-has_room.result
    (λ (h : HasDone (list_meaning xs) m m').
    choice_done c.args.s.now b.c b.first b.second xs b.second.items m b.is c.deref-then-has_room.ensures.value refl m'
    (first_done b.c xs b.second.items m c.value_of.result c.value_of.ensures c.if-value_of-eq0.false m' h))
    c.inside-then-has_room.ensures
