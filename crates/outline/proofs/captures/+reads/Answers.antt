use Rattle.outline.proofs.Naming.{reads_Block, reads_in_Loop, reads_in_If}
use Rattle.std.proofs.Common.{arith}
use Rattle.std.proofs.lemmas.Grind.{common_steps}
use Rattle.outline.proofs.captures.+reads.Goals as goal

pub reads-returns-in-Loop : goal.reads-returns-in-Loop
reads-returns-in-Loop t c =
    reads_in_Loop _ _ c.in-Loop.field-0 c.in-Loop.body _ _ c.in-Loop.is c.deref-in-Loop.ensures.value
    c.one_reads-in-Loop.ensures

pub reads-returns-in-If : goal.reads-returns-in-If
reads-returns-in-If t c =
    reads_in_If _ _ c.in-If.c c.in-If.first c.in-If.second _ _ _ _ _ c.in-If.is c.deref-in-If.ensures.value
    c.deref-in-If-2.ensures.value c.expr_reads-in-If.ensures c.one_reads-in-If.ensures c.one_reads-in-If-2.ensures

pub one_reads-returns-then-reads : goal.one_reads-returns-then-reads
one_reads-returns-then-reads t c = grind (arith, common_steps)

pub one_reads-all-preserved : goal.one_reads-all-preserved
one_reads-all-preserved t c = grind (arith, common_steps)

pub one_reads-returns : goal.one_reads-returns
one_reads-returns t c = grind (arith, common_steps)

pub reads-returns-in-Block : goal.reads-returns-in-Block
reads-returns-in-Block t c = grind (arith, reads_Block)
