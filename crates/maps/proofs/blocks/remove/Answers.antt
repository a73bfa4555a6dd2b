use Rattle.std.proofs.Common.{rules, tests}
use Rattle.std.specs.Prelude.{not}
use Rattle.std.proofs.lemmas.Fn.{filter_same}
use Rattle.base.specs.Memory.{same_section}
use Rattle.maps.proofs.Mapped.{without_is}
use Rattle.maps.proofs.blocks.remove.Goals as goal

pub returns : goal.returns
returns c =
    without_is c.args.blocks.now.items c.retain.new.self.items c.args.section.now
    (filter_same _ (λ b. not (same_section b.section c.args.section.now)) _ (λ x b q k. search (rules, tests))
    c.args.blocks.now.items c.retain.new.self.items c.retain.ensures.filtered)
