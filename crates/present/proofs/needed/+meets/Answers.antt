use Rattle.std.proofs.Common.{sym, subst}
use Rattle.present.specs.Needed.{AreAll, Meets, sections_in}
use Rattle.present.proofs.NeededCells.{met_first}
use Rattle.present.proofs.needed.+meets.Goals as goal

pub returns-then-overlap : goal.returns-then-overlap
returns-then-overlap t c =
    let all = subst (λ x. AreAll (sections_in x)) c.in-Also.is c.requires.created in
    subst (λ x. Meets (sections_in x) c.args.section.now) (sym c.in-Also.is)
    (met_first c.in-Also.first (sections_in c.in-Also.others.now) c.args.section.now all.0 c.requires.section
    (sym c.if-overlap.ensures))
