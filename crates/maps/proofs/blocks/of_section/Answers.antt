use Rattle.std.proofs.Common.{◌∙◌, rules, tests}
use Rattle.std.proofs.lemmas.Iterator.{YieldsList-from_slice}
use Rattle.std.proofs.lemmas.Iterator.Search.{find_from_yields_List}
use Rattle.base.specs.Memory.{same_section}
use Rattle.maps.proofs.blocks.of_section.Goals as goal

pub returns : goal.returns
returns c =
    c.copied.ensures
    ∙ find_from_yields_List (λ b. same_section b.section c.args.section.now) _ _ c.find.result c.find.ensures.ran
    (YieldsList-from_slice c.args.blocks.now cc) (λ x b q k. search (rules, tests))
