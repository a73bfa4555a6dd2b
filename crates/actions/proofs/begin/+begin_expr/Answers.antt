use Rattle.actions.proofs.Began.{begun, leads_Cell, leads_Unary, leads_Shift, leads_Divide, leads_Binary, leads_And, leads_Or}
use Rattle.actions.proofs.begin.+begin_expr.Goals as goal

pub returns-in_ok-push-in-Cell : goal.returns-in_ok-push-in-Cell
returns-in_ok-push-in-Cell t c =
    begun c.begin_expr.result (leads_Cell _ _ c.in-Cell.subscript) _ _ _ _ _ _ _ c.in-Cell.is c.deref.ensures
    c.in_ok-push-in-Cell.ensures.pushed c.begin_expr.ensures

pub returns-in_ok-push-in-Unary : goal.returns-in_ok-push-in-Unary
returns-in_ok-push-in-Unary t c =
    begun c.begin_expr-in-Unary.result (leads_Unary _ c.in-Unary.a) _ _ _ _ _ _ _ c.in-Unary.is c.deref-in-Unary.ensures
    c.in_ok-push-in-Unary.ensures.pushed c.begin_expr-in-Unary.ensures

pub returns-in_ok-push-in-Shift : goal.returns-in_ok-push-in-Shift
returns-in_ok-push-in-Shift t c =
    begun c.begin_expr-in-Shift.result (leads_Shift _ c.in-Shift.a _) _ _ _ _ _ _ _ c.in-Shift.is c.deref-in-Shift.ensures
    c.in_ok-push-in-Shift.ensures.pushed c.begin_expr-in-Shift.ensures

pub returns-in_ok-push-in-Divide : goal.returns-in_ok-push-in-Divide
returns-in_ok-push-in-Divide t c =
    begun c.begin_expr-in-Divide.result (leads_Divide _ c.in-Divide.a _) _ _ _ _ _ _ _ c.in-Divide.is c.deref-in-Divide.ensures
    c.in_ok-push-in-Divide.ensures.pushed c.begin_expr-in-Divide.ensures

pub returns-in_ok-push-in-Binary : goal.returns-in_ok-push-in-Binary
returns-in_ok-push-in-Binary t c =
    begun c.begin_expr-in-Binary.result (leads_Binary _ c.in-Binary.a c.in-Binary.b c.deref-in-Binary.result c.deref-in-Binary.ensures) _ _ _ _ _ _ _ c.in-Binary.is c.deref-in-Binary-2.ensures
    c.in_ok-push-in-Binary.ensures.pushed c.begin_expr-in-Binary.ensures

pub returns-in_ok-push-in-And : goal.returns-in_ok-push-in-And
returns-in_ok-push-in-And t c =
    begun c.begin_expr-in-And.result (leads_And c.in-And.a c.in-And.b c.deref-in-And.result c.deref-in-And.ensures) _ _ _ _ _ _ _ c.in-And.is c.deref-in-And-2.ensures
    c.in_ok-push-in-And.ensures.pushed c.begin_expr-in-And.ensures

pub returns-in_ok-push-in-Or : goal.returns-in_ok-push-in-Or
returns-in_ok-push-in-Or t c =
    begun c.begin_expr-in-Or.result (leads_Or c.in-Or.a c.in-Or.b c.deref-in-Or.result c.deref-in-Or.ensures) _ _ _ _ _ _ _ c.in-Or.is c.deref-in-Or-2.ensures
    c.in_ok-push-in-Or.ensures.pushed c.begin_expr-in-Or.ensures
