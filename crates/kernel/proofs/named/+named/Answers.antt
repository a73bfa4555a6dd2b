use Rattle.kernel.proofs.Namings.{named_Block, named_If, named_Loop, same_named}
use Rattle.kernel.proofs.named.+named.Goals as goal

pub stmt_named-returns-in-Block : goal.stmt_named-returns-in-Block
stmt_named-returns-in-Block t c =
    named_Block c.in-Block.all c.args.s.now c.in-Block.is
    (same_named c.deref.result.now c.in-Block.all.items c.deref.ensures.value c.named.ensures)

pub stmt_named-returns-in-Loop : goal.stmt_named-returns-in-Loop
stmt_named-returns-in-Loop t c =
    named_Loop c.in-Loop.field-0 c.in-Loop.body c.args.s.now c.in-Loop.is
    (same_named c.deref-in-Loop.result.now c.in-Loop.body.items c.deref-in-Loop.ensures.value c.named-in-Loop.ensures)

pub stmt_named-returns-in-If : goal.stmt_named-returns-in-If
stmt_named-returns-in-If t c =
    named_If c.in-If.c c.in-If.first c.in-If.second c.args.s.now c.in-If.is c.expr_named-in-If.ensures
    (same_named c.deref-in-If.result.now c.in-If.first.items c.deref-in-If.ensures.value c.named-in-If.ensures)
    (same_named c.deref-in-If-2.result.now c.in-If.second.items c.deref-in-If-2.ensures.value c.named-in-If-2.ensures)
