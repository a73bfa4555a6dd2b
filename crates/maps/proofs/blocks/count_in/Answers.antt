use Rattle.std.proofs.Common.{◌∙◌, None, Some, sym}
use Rattle.maps.proofs.Mapped.{count_is}
use Rattle.maps.proofs.blocks.count_in.Goals as goal

pub returns-in-None : goal.returns-in-None
returns-in-None c =
    count_is c.args.blocks.now c.args.section.now None (sym c.in-None.is ∙ c.of_section.ensures)

pub returns-in-Some : goal.returns-in-Some
returns-in-Some c =
    count_is c.args.blocks.now c.args.section.now (Some c.in-Some.block) (sym c.in-Some.is ∙ c.of_section.ensures)
