use Rattle.std.proofs.Common.{◌∙◌, ap, Some, subst, sym}
use Rattle.std.specs.Prelude.{IfErr}
use Rattle.driver.specs.Printed.{AreChoices}
use Rattle.driver.specs.Refused.{IsRefusalBy, IsRefusedOf}
use Rattle.driver.proofs.Steps.{checked_way, done_way}
use Rattle.driver.proofs.running.do_step.Goals as goal

pub returns-clause-refused : goal.returns-clause-refused
returns-clause-refused g c =
    subst (λ b. IfErr c.run_file.result (IsRefusalBy (IsRefusedOf b (g.S.Sources.known c.args.sources.now c.args.step.file.now))))
    (checked_way c.args.step.fine c.deref.result.now c.deref-2.result.now c.step_way.result c.step_way.ensures) c.run_file.ensures.refused

pub returns-clause-done : goal.returns-clause-done
returns-clause-done g c =
    done_way c.run_file.result (g.S.Sources.known c.args.sources.now c.args.step.file.now) c.args.step.fine c.args.step.maps c.args.step.choices.now
    c.args.step.choice_runs.now c.deref.result.now
    c.args.step.turns.now c.deref-2.result.now c.args.step.capacity c.step_way.result (g.R.Read.remaining c.args.input.now) (g.W.Write.contents c.args.out.now)
    (g.W.Write.contents c.run_file.new.out) (subst (AreChoices c.args.step.choices.now c.args.step.choice_runs.now) (sym c.deref.ensures.value) c.in_ok-choices.ensures.choices)
    (c.in-Ok.ensures.choices ∙ ap (λ ns. Some ns) (sym c.deref-2.ensures.value)) c.step_way.ensures
    c.run_file.ensures.printed
