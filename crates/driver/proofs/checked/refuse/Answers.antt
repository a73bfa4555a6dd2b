use Rattle.std.proofs.Common.{◌∙◌, ap, subst, sym}
use Rattle.pipeline.specs.Checking.{IsRefused}
use Rattle.driver.specs.Statuses.{status_of}
use Rattle.driver.specs.Refused.{IsRefusalBy}
use Rattle.driver.proofs.Misuses.{not_misused}
use Rattle.driver.proofs.Refusals.{told}
use Rattle.driver.proofs.checked.refuse.Goals as goal

pub returns-clause-refused : goal.returns-clause-refused
returns-clause-refused g c =
    subst (IsRefusalBy (IsRefused c.args.bytes.now)) (sym c.ending_of.ensures) (told (IsRefused c.args.bytes.now) c.in-Err.fault c.in-Err.ensures.fault)

pub returns-clause-used : goal.returns-clause-used
returns-clause-used g c = λ two. not_misused c.in-Err.fault (ap status_of (sym c.ending_of.ensures) ∙ two)
