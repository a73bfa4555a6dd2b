use Rattle.std.proofs.Common.{Bool, List, rules, sym, subst}
use Rattle.base.specs.declared.tree.Stmt.TheViews.{the_lemmas}
use Rattle.std.proofs.lemmas.Result.{on_ok_weaker}
use Rattle.kernel.specs.Lanes.{IsPart, block_of, inside_of, masked}
use Rattle.kernel.specs.declared.turns.Lane.{Lane}
use Rattle.kernel.specs.Offsets.{places_of}
use Rattle.std.specs.Prelude.{◌-◌, ◌&&◌}
use Rattle.lanes.specs.Apart.{in_block, where_false, where_true}
use Rattle.std.proofs.Common.{ap}
use Rattle.kernel.proofs.Bodies.{this_there, one_done, all_is_done}
use Rattle.kernel.proofs.ChoiceRows.{first_there, second_there, choice_done}
use Rattle.kernel.proofs.NoTurns.{none_body}
use Rattle.kernel.proofs.block.+block.Goals as goal

pub do_branch-returns-then-not-has_turns-clause-block :
    goal.do_branch-returns-then-not-has_turns-clause-block
do_branch-returns-then-not-has_turns-clause-block t c =
    let at = c.args.at.now in
    sym (none_body (places_of at.offset) at.outer.now c.args.body.now (masked at c.args.mask.now)
    (block_of at c.args.lanes.now.items c.args.rows.now)
    (λ v. ap (λ b. b && in_block at.first at.count v) (c.has_turns.ensures (c.if-not-has_turns.true) (v - at.first))))

pub do_body-do_stmt-requires : goal.do_body-do_stmt-requires
do_body-do_stmt-requires t c = (
  search (rules, the_lemmas),
  (
    c.loop-s.invariant.sizes,
    this_there c.args.at.now c.args.body.now c.args.lanes.now.items c.args.rows.now c.loop-s.s-index c.loop-s.lanes.items c.loop-s.rows
        c.loop-s.invariant c.s-item.result c.loop-s-test.true c.s-item.is,
  ),
)

pub do_body-loop-s-preserved : goal.do_body-loop-s-preserved
do_body-loop-s-preserved t c =
    one_done c.args.at.now c.args.body.now c.args.lanes.now.items c.args.rows.now c.loop-s.s-index c.loop-s.lanes.items c.loop-s.rows
    c.loop-s.invariant c.s-item.result c.do_stmt.new.lanes.items c.do_stmt.new.rows c.loop-s-test.true c.s-item.is
    c.in_ok-do_stmt.ensures.lanes c.in_ok-do_stmt.ensures.block

pub do_body-returns-clause-block : goal.do_body-returns-clause-block
do_body-returns-clause-block t c =
    all_is_done c.args.at.now c.args.body.now c.args.lanes.now.items c.args.rows.now c.loop-s.s-index c.loop-s.lanes.items c.loop-s.rows
    c.loop-s.invariant c.loop-s-test.false

pub do_stmt-do_branch-requires : goal.do_stmt-do_branch-requires
do_stmt-do_branch-requires t c =
    let at = c.args.at.now in
    let b = block_of at c.args.lanes.now.items c.args.rows.now in
    let parts = c.in_ok-parts-in-If.parts in
    let p : IsPart at c.deref-in-If-3.result.now (where_true (inside_of at) c.in-If.c b at.outer.now) =
    subst (λ (m : List Bool). IsPart at m (where_true (inside_of at) c.in-If.c b at.outer.now)) (sym c.deref-in-If-3.ensures.value)
    (subst (λ (ls : List Lane). IsPart at parts.chosen.items (where_true (inside_of at) c.in-If.c (block_of at ls c.args.rows.now) at.outer.now))
    c.deref-in-If.ensures.value c.in_ok-parts-in-If.ensures.chosen) in (
      search (rules, the_lemmas),
      (
        p.size,
        (
          c.requires.lanes,
          first_there c.in-If.c c.in-If.first c.in-If.second at c.args.s.now c.deref-in-If-2.result.now b c.in-If.is
              c.deref-in-If-2.ensures.value c.deref-in-If-3.result.now p c.requires.there,
        ),
      ),
    )

pub do_stmt-do_branch-requires-in-If : goal.do_stmt-do_branch-requires-in-If
do_stmt-do_branch-requires-in-If t c =
    let at = c.args.at.now in
    let b = block_of at c.args.lanes.now.items c.args.rows.now in
    let parts = c.in_ok-parts-in-If.parts in
    let p : IsPart at c.deref-in-If-3.result.now (where_true (inside_of at) c.in-If.c b at.outer.now) =
    subst (λ (m : List Bool). IsPart at m (where_true (inside_of at) c.in-If.c b at.outer.now)) (sym c.deref-in-If-3.ensures.value)
    (subst (λ (ls : List Lane). IsPart at parts.chosen.items (where_true (inside_of at) c.in-If.c (block_of at ls c.args.rows.now) at.outer.now))
    c.deref-in-If.ensures.value c.in_ok-parts-in-If.ensures.chosen) in
    let q : IsPart at c.deref-in-If-5.result.now (where_false (inside_of at) c.in-If.c b at.outer.now) =
    subst (λ (m : List Bool). IsPart at m (where_false (inside_of at) c.in-If.c b at.outer.now)) (sym c.deref-in-If-5.ensures.value)
    (subst (λ (ls : List Lane). IsPart at parts.others.items (where_false (inside_of at) c.in-If.c (block_of at ls c.args.rows.now) at.outer.now))
    c.deref-in-If.ensures.value c.in_ok-parts-in-If.ensures.others) in (
      search (rules, the_lemmas),
      (
        q.size,
        (
          c.in_ok-do_branch-in-If.ensures.lanes,
          second_there c.in-If.c c.in-If.first c.in-If.second at c.args.s.now c.deref-in-If-2.result.now c.deref-in-If-4.result.now b
              c.in-If.is c.deref-in-If-2.ensures.value c.deref-in-If-4.ensures.value c.deref-in-If-3.result.now c.deref-in-If-5.result.now
              p q _ c.in_ok-do_branch-in-If.ensures.block c.requires.there,
        ),
      ),
    )

pub do_stmt-returns-in_ok-do_branch-in-If-clause-block :
    goal.do_stmt-returns-in_ok-do_branch-in-If-clause-block
do_stmt-returns-in_ok-do_branch-in-If-clause-block t c =
    let at = c.args.at.now in
    let b = block_of at c.args.lanes.now.items c.args.rows.now in
    let parts = c.in_ok-parts-in-If.parts in
    let p : IsPart at c.deref-in-If-3.result.now (where_true (inside_of at) c.in-If.c b at.outer.now) =
    subst (λ (m : List Bool). IsPart at m (where_true (inside_of at) c.in-If.c b at.outer.now)) (sym c.deref-in-If-3.ensures.value)
    (subst (λ (ls : List Lane). IsPart at parts.chosen.items (where_true (inside_of at) c.in-If.c (block_of at ls c.args.rows.now) at.outer.now))
    c.deref-in-If.ensures.value c.in_ok-parts-in-If.ensures.chosen) in
    let q : IsPart at c.deref-in-If-5.result.now (where_false (inside_of at) c.in-If.c b at.outer.now) =
    subst (λ (m : List Bool). IsPart at m (where_false (inside_of at) c.in-If.c b at.outer.now)) (sym c.deref-in-If-5.ensures.value)
    (subst (λ (ls : List Lane). IsPart at parts.others.items (where_false (inside_of at) c.in-If.c (block_of at ls c.args.rows.now) at.outer.now))
    c.deref-in-If.ensures.value c.in_ok-parts-in-If.ensures.others) in
    on_ok_weaker c.do_branch-in-If.result
    (choice_done c.in-If.c c.in-If.first c.in-If.second at c.args.s.now c.deref-in-If-2.result.now c.deref-in-If-4.result.now b c.in-If.is
    c.deref-in-If-2.ensures.value c.deref-in-If-4.ensures.value c.deref-in-If-3.result.now c.deref-in-If-5.result.now p q _
    c.in_ok-do_branch-in-If.ensures.block _) c.do_branch-in-If.ensures.block
