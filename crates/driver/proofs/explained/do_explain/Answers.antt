use Rattle.std.proofs.Common.{◌∙◌, ap, subst, sym, true}
use Rattle.pipeline.specs.Checking.{IsRefused}
use Rattle.std.specs.Prelude.{OnOk}
use Rattle.explain.specs.Explained.{SpellsAccepted}
use Rattle.driver.specs.Statuses.{status_of}
use Rattle.driver.specs.Refused.{IsRefusalBy, IsRefusedOf}
use Rattle.driver.proofs.Misuses.{not_misused_told}
use Rattle.driver.proofs.Refusals.{printed}
use Rattle.driver.proofs.Requests.{of_source}
use Rattle.driver.proofs.explained.do_explain.Goals as goal

pub returns-clause-refused : goal.returns-clause-refused
returns-clause-refused g c =
    let source = g.S.Sources.known c.args.sources.now c.args.asked.file.now in
    subst (IsRefusalBy (IsRefusedOf true source)) (sym c.told_of.ensures)
    (printed (IsRefusedOf true source) c.in-Err.fault (
      tt,
      of_source source (λ bytes. IsRefused bytes c.in-Err.fault) c.in_ok-texts.texts.bytes.items
          c.deref-2.result.now c.in_ok-texts.ensures.bytes c.deref-2.ensures.value c.in-Err.ensures.fault,
    ))

pub returns-clause-misused : goal.returns-clause-misused
returns-clause-misused g c = λ two. absurd (not_misused_told c.in-Err.fault (ap status_of (sym c.told_of.ensures) ∙ two))

pub returns-clause-quiet_misuse : goal.returns-clause-quiet_misuse
returns-clause-quiet_misuse g c = λ two. absurd (not_misused_told c.in-Err.fault (ap status_of (sym c.told_of.ensures) ∙ two))

pub returns-in-Ok-Ok-clause-done : goal.returns-in-Ok-Ok-clause-done
returns-in-Ok-Ok-clause-done g c =
    λ _. of_source (g.S.Sources.known c.args.sources.now c.args.asked.file.now) SpellsAccepted c.in_ok-texts.texts.bytes.items
    c.deref-2.result.now c.in_ok-texts.ensures.bytes c.deref-2.ensures.value
    (subst (λ w. OnOk w (SpellsAccepted c.deref-2.result.now)) c.in-Ok-Ok.field-0-is c.in-Ok-Ok.ensures.accepted)
