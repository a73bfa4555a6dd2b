use Rattle.std.proofs.Common.{List, sym, ◌∙◌, subst}
use Rattle.std.specs.Prelude.{◌&&◌}
use Rattle.std.proofs.lemmas.Bool.{and_parts}
use Rattle.base.specs.declared.tree.Stmt.{Stmt}
use Rattle.kernel.specs.Loops.{AreApartFor, IsApartFor, loose_in}
use Rattle.kernel.specs.Offsets.{here_in}
use Rattle.kernel.proofs.Anys.{apart_next}
use Rattle.kernel.proofs.ChoiceRows.{choice_apart}
use Rattle.kernel.proofs.apart.+apart.Goals as goal

pub branch_apart-loop-s-preserved : goal.branch_apart-loop-s-preserved
branch_apart-loop-s-preserved t c =
    let body = c.args.body.now in
    apart_next (here_in body c.args.at.now) body (loose_in body c.args.before.now) c.args.all.now c.loop-s.s-index c.s-item.result
    c.loop-s-test.true c.s-item.is (c.stmt_apart.ensures c.if-not-stmt_apart.false) c.loop-s.invariant

pub stmt_apart-returns-in-If : goal.stmt_apart-returns-in-If
stmt_apart-returns-in-If t c = λ e.
    let body = c.args.body.now in
    let here = here_in c.args.body.now c.args.at.now in
    let loose = loose_in c.args.body.now c.args.before.now in
    let l = and_parts (c.expr_apart.result && c.branch_apart.result) c.branch_apart-in-If.result e in
    let m = and_parts c.expr_apart.result c.branch_apart.result l.0 in
    subst (λ (s : Stmt). IsApartFor here body loose s) (sym c.in-If.is)
    (choice_apart c.in-If.c c.in-If.first c.in-If.second here body loose (sym c.expr_apart.ensures ∙ m.0)
    (subst (λ (xs : List Stmt). AreApartFor here body loose xs) c.deref.ensures.value (c.branch_apart.ensures m.1))
    (subst (λ (xs : List Stmt). AreApartFor here body loose xs) c.deref-in-If.ensures.value (c.branch_apart-in-If.ensures l.1)))
