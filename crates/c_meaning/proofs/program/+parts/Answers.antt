use Rattle.c_meaning.proofs.SameRows.{part_in_Block, part_in_Data, part_in_Loop}
use Rattle.c_meaning.proofs.program.+parts.Goals as goal

pub part_is_same-returns-in-Block : goal.part_is_same-returns-in-Block
part_is_same-returns-in-Block t c =
    part_in_Block _ c.in-Block.all _ _ c.in-Block.is c.deref.ensures.value c.parts_are_same.ensures

pub part_is_same-returns-in-Loop : goal.part_is_same-returns-in-Loop
part_is_same-returns-in-Loop t c =
    part_in_Loop _ c.in-Loop.b c.in-Loop.body _ _ _ c.in-Loop.is c.deref-in-Loop.ensures.value c.has_types.ensures
    c.parts_are_same-in-Loop.ensures

pub part_is_same-returns-in-Data : goal.part_is_same-returns-in-Data
part_is_same-returns-in-Data t c =
    part_in_Data _ c.in-Data.field-0 c.in-Data.body _ _ c.in-Data.is c.deref-in-Data.ensures.value
    c.parts_are_same-in-Data.ensures
