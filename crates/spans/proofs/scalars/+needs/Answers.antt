use Rattle.std.proofs.Common.{sym, ap, ◌∙◌}
use Rattle.base.specs.ScalarUse.{list_needs, stmt_needs}
use Rattle.spans.proofs.ScalarLists.{needs_Loop, needs_first, needs_second}
use Rattle.spans.proofs.scalars.+needs.Goals as goal

pub stmt_needs-returns-in-Loop : goal.stmt_needs-returns-in-Loop
stmt_needs-returns-in-Loop t c =
    let x = c.args.x.0 in
    c.all_need-in-Loop.ensures
    ∙ ap (list_needs x) c.deref-in-Loop.ensures.value
    ∙ sym (ap (stmt_needs x) c.in-Loop.is ∙ needs_Loop x c.in-Loop.field-0 c.in-Loop.body)

pub stmt_needs-returns-then-all_need : goal.stmt_needs-returns-then-all_need
stmt_needs-returns-then-all_need t c =
    needs_first c.args.x.0 c.args.s.now c.in-If.c c.in-If.first c.in-If.second c.in-If.is c.deref-else-expr_reads-3.result.now
    c.deref-else-expr_reads-3.ensures.value c.expr_reads-in-If.result c.all_need-else-expr_reads-3.result
    c.expr_reads-in-If.ensures c.all_need-else-expr_reads-3.ensures c.if-expr_reads-3.false c.if-all_need.true

pub stmt_needs-returns-else-all_need : goal.stmt_needs-returns-else-all_need
stmt_needs-returns-else-all_need t c =
    needs_second c.args.x.0 c.args.s.now c.in-If.c c.in-If.first c.in-If.second c.in-If.is c.deref-else-expr_reads-3.result.now
    c.deref-else-expr_reads-3.ensures.value c.expr_reads-in-If.result c.all_need-else-expr_reads-3.result
    c.expr_reads-in-If.ensures c.all_need-else-expr_reads-3.ensures c.if-expr_reads-3.false
    c.deref-else-all_need.result.now c.all_need-else-all_need.result c.deref-else-all_need.ensures.value c.if-all_need.false
    c.all_need-else-all_need.ensures
