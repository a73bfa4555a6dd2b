use Rattle.std.proofs.Common.{arith, ◌&&◌, sym, ap, ap₂, ◌∙◌}
use Rattle.device.specs.Same.{same_list, same_stmt}
use Rattle.device.proofs.SameBodies.{of_If, of_Loop, other_length, same_Block}
use Rattle.std.proofs.lemmas.Grind.{common_steps}
use Rattle.device.proofs.same.+same.Goals as goal

pub is_same_list-returns-then-left-right : goal.is_same_list-returns-then-left-right
is_same_list-returns-then-left-right t c = sym (other_length c.args.left.now c.args.right.now c.if-left-right.true)

pub is_same_stmt-returns-in-Block-Block : goal.is_same_stmt-returns-in-Block-Block
is_same_stmt-returns-in-Block-Block t c =
    c.is_same_list.ensures ∙ ap₂ same_list c.deref.ensures.value c.deref-in-Block-Block.ensures.value
    ∙ sym (same_Block c.in-Block-Block.all c.in-Block-Block.other) ∙ ap₂ same_stmt (sym c.in-Block-Block.is-0) (sym c.in-Block-Block.is-1)

pub is_same_stmt-returns-then-is_same_bounds : goal.is_same_stmt-returns-then-is_same_bounds
is_same_stmt-returns-then-is_same_bounds t c =
    c.is_same_list-then-is_same_bounds.ensures
    ∙ ap₂ same_list c.deref-then-is_same_bounds.ensures.value c.deref-then-is_same_bounds-2.ensures.value
    ∙ ap (λ b. b && same_list c.in-Loop-Loop.all.items c.in-Loop-Loop.other.items) (sym c.if-is_same_bounds.true ∙ c.is_same_bounds.ensures)
    ∙ sym (of_Loop c.args.left.now c.args.right.now c.in-Loop-Loop.a c.in-Loop-Loop.b c.in-Loop-Loop.all c.in-Loop-Loop.other c.in-Loop-Loop.is-0
    c.in-Loop-Loop.is-1)

pub is_same_stmt-returns-then-is_same_list : goal.is_same_stmt-returns-then-is_same_list
is_same_stmt-returns-then-is_same_list t c =
    let w = c.in-If-If in
    c.is_same_list-then-is_same_list.ensures
    ∙ ap₂ same_list c.deref-then-is_same_list.ensures.value c.deref-then-is_same_list-2.ensures.value
    ∙ ap₂ (λ a b. a && (b && same_list w.more.items w.rest.items)) (sym c.if-is_same_expr-3.true ∙ c.is_same_expr-in-If-If.ensures)
    (sym c.if-is_same_list.true ∙ c.is_same_list-then-is_same_expr-3.ensures
    ∙ ap₂ same_list c.deref-then-is_same_expr-3.ensures.value c.deref-then-is_same_expr-3-2.ensures.value)
    ∙ sym (of_If c.args.left.now c.args.right.now w.a w.b w.all w.more w.other w.rest w.is-0 w.is-1)

pub is_same_stmt-returns-else-is_same_list : goal.is_same_stmt-returns-else-is_same_list
is_same_stmt-returns-else-is_same_list t c =
    let w = c.in-If-If in
    c.if-is_same_list.false
    ∙ ap₂ (λ a b. a && (b && same_list w.more.items w.rest.items)) (sym c.if-is_same_expr-3.true ∙ c.is_same_expr-in-If-If.ensures)
    (sym c.if-is_same_list.false ∙ c.is_same_list-then-is_same_expr-3.ensures
    ∙ ap₂ same_list c.deref-then-is_same_expr-3.ensures.value c.deref-then-is_same_expr-3-2.ensures.value)
    ∙ sym (of_If c.args.left.now c.args.right.now w.a w.b w.all w.more w.other w.rest w.is-0 w.is-1)

pub is_same_list-returns-then-not-is_same_stmt : goal.is_same_list-returns-then-not-is_same_stmt
is_same_list-returns-then-not-is_same_stmt t c = grind (arith, common_steps)

pub is_same_list-each-preserved : goal.is_same_list-each-preserved
is_same_list-each-preserved t c = grind (arith, common_steps)

pub is_same_list-returns : goal.is_same_list-returns
is_same_list-returns t c = grind (arith, common_steps)
