use Rattle.c_meaning.proofs.SameRows.{same_in_Loop, same_in_If}
use Rattle.c_meaning.proofs.program.+statements.Goals as goal

pub stmt_is_same-returns-in-Loop : goal.stmt_is_same-returns-in-Loop
stmt_is_same-returns-in-Loop t c =
    same_in_Loop _ c.in-Loop.b c.in-Loop.body _ _ _ c.in-Loop.is c.deref-in-Loop.ensures.value c.has_types.ensures
    c.body_is_same-in-Loop.ensures

pub stmt_is_same-returns-in-If : goal.stmt_is_same-returns-in-If
stmt_is_same-returns-in-If t c =
    same_in_If _ c.in-If.c c.in-If.first c.in-If.second _ _ _ _ _ c.in-If.is c.deref-in-If.ensures.value
    c.deref-in-If-2.ensures.value c.expr_is_same-in-If.ensures c.body_is_same-in-If.ensures
    c.body_is_same-in-If-2.ensures
