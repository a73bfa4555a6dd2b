use Rattle.regions.proofs.DecidingRows.{decides_Block, decides_in_Loop, decides_in_If}
use Rattle.std.proofs.Common.{arith}
use Rattle.std.proofs.lemmas.Grind.{common_steps}
use Rattle.regions.proofs.deciding.+deciding.Goals as goal

pub in_stmt-returns-in-Loop : goal.in_stmt-returns-in-Loop
in_stmt-returns-in-Loop t c =
    decides_in_Loop _ _ c.in-Loop.field-0 c.in-Loop.body _ _ c.in-Loop.is c.deref-in-Loop.ensures.value
    c.body_decides-in-Loop.ensures

pub in_stmt-returns-in-If : goal.in_stmt-returns-in-If
in_stmt-returns-in-If t c =
    decides_in_If _ _ c.in-If.c c.in-If.first c.in-If.second _ _ _ _ _ c.in-If.is c.deref-in-If.ensures.value
    c.deref-in-If-2.ensures.value c.in_expr-in-If.ensures c.body_decides-in-If.ensures c.body_decides-in-If-2.ensures

pub body_decides-returns-then-in_stmt : goal.body_decides-returns-then-in_stmt
body_decides-returns-then-in_stmt t c = grind (arith, common_steps)

pub body_decides-all-preserved : goal.body_decides-all-preserved
body_decides-all-preserved t c = grind (arith, common_steps)

pub body_decides-returns : goal.body_decides-returns
body_decides-returns t c = grind (arith, common_steps)

pub in_stmt-returns-in-Block : goal.in_stmt-returns-in-Block
in_stmt-returns-in-Block t c = grind (arith, decides_Block)
