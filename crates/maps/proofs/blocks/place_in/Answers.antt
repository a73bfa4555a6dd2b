use Rattle.std.proofs.Common.{◌∙◌, sym}
use Rattle.maps.proofs.Mapped.{absent_is, inside_is, part_is}
use Rattle.maps.proofs.blocks.place_in.Goals as goal

pub returns-in-None : goal.returns-in-None
returns-in-None c = absent_is c.args.blocks.now c.args.section.now (sym c.in-None.is ∙ c.overlapping.ensures)

pub returns-in-Some : goal.returns-in-Some
returns-in-Some c =
    inside_is c.args.blocks.now c.args.section.now c.in-Some.block (sym c.in-Some.is ∙ c.overlapping.ensures)
    (sym c.is_inside.ensures ∙ c.if-is_inside.true)

pub returns-in-Some-2 : goal.returns-in-Some-2
returns-in-Some-2 c =
    part_is c.args.blocks.now c.args.section.now c.in-Some.block (sym c.in-Some.is ∙ c.overlapping.ensures)
    (sym c.is_inside.ensures ∙ c.if-is_inside.false)
