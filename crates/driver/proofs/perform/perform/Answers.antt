use Rattle.std.proofs.Common.{◌∙◌, sym}
use Rattle.driver.proofs.Refusing.{refused_by}
use Rattle.driver.proofs.perform.perform.Goals as goal

pub returns-in-Err-clause-quiet : goal.returns-in-Err-clause-quiet
returns-in-Err-clause-quiet g c = λ _. c.in-Err.ensures.quiet

pub returns-in-Err-clause-refused : goal.returns-in-Err-clause-refused
returns-in-Err-clause-refused g c =
    λ s. refused_by _ c.in-Err.ending c.in-Err.ensures.refused (sym c.status.ensures.status ∙ s)
