use Rattle.outline.proofs.Counting.{count_Block, counted_Loop, counted_Data}
use Rattle.std.proofs.Common.{arith}
use Rattle.std.proofs.lemmas.Grind.{common_steps}
use Rattle.outline.proofs.count.+count.Goals as goal

pub count-returns-in-Loop : goal.count-returns-in-Loop
count-returns-in-Loop t c =
    counted_Loop _ c.in-Loop.bounds c.in-Loop.body _ _ _ _ _ c.in-Loop.is c.deref-in-Loop.ensures.value c.turns.ensures
    c.count_all-in-Loop.ensures c.saturating_mul.ensures

pub count-returns-in-Data : goal.count-returns-in-Data
count-returns-in-Data t c =
    counted_Data _ c.in-Data.field-0 c.in-Data.body _ _ _ _ c.in-Data.is c.deref-in-Data.ensures.value
    c.count_all-in-Data.ensures c.saturating_add.ensures

pub count-returns-in-Block : goal.count-returns-in-Block
count-returns-in-Block t c = grind (arith, count_Block)

pub count_all-parts-preserved : goal.count_all-parts-preserved
count_all-parts-preserved t c = grind (arith, common_steps)

pub count_all-returns : goal.count_all-returns
count_all-returns t c = grind (arith, common_steps)
