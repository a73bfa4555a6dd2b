use Rattle.std.proofs.Common.{subst}
use Rattle.std.proofs.lemmas.Result.{on_ok_weaker}
use Rattle.actions.specs.Opening.{IsRegion}
use Rattle.actions.proofs.Puts.{puts_region}
use Rattle.actions.proofs.starting.put_region.Goals as goal

pub returns-in-Some : goal.returns-in-Some
returns-in-Some c r is =
    on_ok_weaker c.push.result
    (puts_region c.in-Some.region c.deref.result r _ _ (subst (λ o. IsRegion o r) c.in-Some.is is)
    c.deref.ensures.value)
    c.push.ensures.pushed
