use Rattle.std.proofs.Common.{ℕ, subst, sym, true}
use Rattle.std.specs.Prelude.{IfErr, Result}
use Rattle.driver.specs.declared.ending.Ending.{Ending}
use Rattle.driver.specs.Refused.{IsRefusalBy, IsRefusedOf}
use Rattle.driver.proofs.Refusals.{of_refused}
use Rattle.driver.proofs.fixed.do_fix.Goals.{in-Err-Refused, in-Err+in-BadChoices-1, in-Ok-1}
use Rattle.driver.proofs.fixed.do_fix.Goals as goal

pub returns-in_default-clause-refused : goal.returns-in_default-clause-refused
returns-in_default-clause-refused g c =
    of_refused c.refuse.result (g.S.Sources.known c.args.sources.now c.args.name.now) c.in_ok-texts.texts.bytes.items
    c.deref-in_default.result.now c.in_ok-texts.ensures.bytes c.deref-in_default.ensures.value c.refuse.ensures.refused

pub returns-clause-refused : goal.returns-clause-refused
returns-clause-refused g c =
    let source = g.S.Sources.known c.args.sources.now c.args.name.now in
    let refused = λ (r : Result ℕ Ending). IfErr r (IsRefusalBy (IsRefusedOf true source)) in
    let told = of_refused c.refuse-refused.result source c.in_ok-texts.texts.bytes.items c.deref-in-None.result.now
    c.in_ok-texts.ensures.bytes c.deref-in-None.ensures.value c.refuse-refused.ensures.refused in
    elim c.match-refused.branch [
      | in-Err-Refused w ↦ subst refused (sym w.result-is) told
      | in-Err+in-BadChoices-1 w ↦ subst refused (sym w.result-is) told
      | in-Ok-1 w ↦ subst refused (sym w.result-is) told
    ]
