use Rattle.std.proofs.Common.{sym, ap, ◌∙◌}
use Rattle.std.specs.List.{list_any}
use Rattle.base.specs.ScalarUse.{list_assigned, stmt_assigned}
use Rattle.spans.specs.Asked.{asks}
use Rattle.spans.proofs.ScalarLists.{assigned_Loop, given_first, given_second}
use Rattle.spans.proofs.scalars.+gives.Goals as goal

pub stmt_gives-returns-in-Loop : goal.stmt_gives-returns-in-Loop
stmt_gives-returns-in-Loop t c =
    c.some_give-in-Loop.ensures
    ∙ ap (λ zs. list_any (λ x. asks c.args.asked x c.args.body.now) (list_assigned zs)) c.deref-in-Loop.ensures.value
    ∙ sym (ap (λ s. list_any (λ x. asks c.args.asked x c.args.body.now) (stmt_assigned s)) c.in-Loop.is
    ∙ ap (list_any (λ x. asks c.args.asked x c.args.body.now)) (assigned_Loop c.in-Loop.field-0 c.in-Loop.turn))

pub stmt_gives-returns-then-some_give : goal.stmt_gives-returns-then-some_give
stmt_gives-returns-then-some_give t c =
    given_first (λ x. asks c.args.asked x c.args.body.now) c.args.s.now c.in-If.field-0 c.in-If.first c.in-If.second c.in-If.is
    c.deref-in-If.result.now c.deref-in-If.ensures.value c.some_give-in-If.result c.some_give-in-If.ensures c.if-some_give.true

pub stmt_gives-returns-else-some_give : goal.stmt_gives-returns-else-some_give
stmt_gives-returns-else-some_give t c =
    given_second (λ x. asks c.args.asked x c.args.body.now) c.args.s.now c.in-If.field-0 c.in-If.first c.in-If.second c.in-If.is
    c.deref-in-If.result.now c.deref-in-If.ensures.value c.some_give-in-If.result c.some_give-in-If.ensures
    c.deref-else-some_give.result.now c.some_give-else-some_give.result c.deref-else-some_give.ensures.value c.if-some_give.false
    c.some_give-else-some_give.ensures
