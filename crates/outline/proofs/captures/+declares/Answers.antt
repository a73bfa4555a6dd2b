use Rattle.outline.proofs.Naming.{declares_Block, declares_in_Loop, declares_in_If}
use Rattle.std.proofs.Common.{arith}
use Rattle.std.proofs.lemmas.Grind.{common_steps}
use Rattle.outline.proofs.captures.+declares.Goals as goal

pub declares-returns-in-Loop : goal.declares-returns-in-Loop
declares-returns-in-Loop t c =
    declares_in_Loop _ _ c.in-Loop.field-0 c.in-Loop.body _ _ c.in-Loop.is c.deref-in-Loop.ensures.value
    c.one_declares-in-Loop.ensures

pub declares-returns-in-If : goal.declares-returns-in-If
declares-returns-in-If t c =
    declares_in_If _ _ c.in-If.field-0 c.in-If.first c.in-If.second _ _ _ _ c.in-If.is c.deref-in-If.ensures.value
    c.deref-in-If-2.ensures.value c.one_declares-in-If.ensures c.one_declares-in-If-2.ensures

pub declares-returns-in-Block : goal.declares-returns-in-Block
declares-returns-in-Block t c = grind (arith, declares_Block)

pub one_declares-returns-then-declares : goal.one_declares-returns-then-declares
one_declares-returns-then-declares t c = grind (arith, common_steps)

pub one_declares-all-preserved : goal.one_declares-all-preserved
one_declares-all-preserved t c = grind (arith, common_steps)

pub one_declares-returns : goal.one_declares-returns
one_declares-returns t c = grind (arith, common_steps)
