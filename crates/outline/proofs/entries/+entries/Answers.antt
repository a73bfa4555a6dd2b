use Rattle.std.proofs.lemmas.Result.{on_ok_weaker}
use Rattle.outline.specs.Regions.{entry_of}
use Rattle.outline.proofs.Trees.{entries_Block, added_Loop, added_Data}
use Rattle.std.proofs.Common.{arith}
use Rattle.std.proofs.lemmas.Grind.{common_steps}
use Rattle.outline.proofs.entries.+entries.Goals as goal

pub add_part-returns-in-Loop : goal.add_part-returns-in-Loop
add_part-returns-in-Loop t c =
    on_ok_weaker c.add_all-in-Loop.result
    (added_Loop entry_of _ _ _ c.in-Loop.field-0 c.in-Loop.body _ _ _ c.in-Loop.is c.deref-in-Loop.ensures.value)
    c.add_all-in-Loop.ensures

pub add_part-returns-in-Data : goal.add_part-returns-in-Data
add_part-returns-in-Data t c =
    on_ok_weaker c.add_all-in-Data.result
    (added_Data entry_of _ _ _ c.in-Data.field-0 c.in-Data.body _ _ _ c.in-Data.is c.deref-in-Data.ensures.value)
    c.add_all-in-Data.ensures

pub add_all-parts-preserved : goal.add_all-parts-preserved
add_all-parts-preserved t c = grind (arith, common_steps)

pub add_all-returns : goal.add_all-returns
add_all-returns t c = grind (arith, common_steps)

pub add_part-returns-in-Block : goal.add_part-returns-in-Block
add_part-returns-in-Block t c = grind (arith, entries_Block)
