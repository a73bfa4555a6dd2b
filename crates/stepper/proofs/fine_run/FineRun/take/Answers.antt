use Rattle.std.proofs.Common.{◌≡◌, true, None, not, refl, sym, ap, ◌∙◌, subst}
use Rattle.std.proofs.lemmas.Bool.{cond-true}
use Rattle.base.specs.Items.{plan}
use Rattle.fine_machine.specs.Machine.{enabled}
use Rattle.stepper.specs.Run.{IsGoing, Run, state_of}
use Rattle.stepper.specs.Running.{HasDone, run_of}
use Rattle.stepper.proofs.GoesOn.{able, goes_on, has_done}
use Rattle.stepper.proofs.fine_run.FineRun.take.Goals as goal

pub take-requires-clause-able : goal.take-requires-clause-able
take-requires-clause-able c =
    able (run_of c.self.inside) c.self.inside.standing c.self.invariant
    (subst IsGoing (sym c.self.view_is) c.requires.going) c.args.event
    (subst (λ (r : Run). enabled (plan r.program) (state_of r) c.args.event ≡ true) (sym c.self.view_is) c.requires.enabled)

pub invariant_of-self-2 : goal.invariant_of-self-2
invariant_of-self-2 c =
    goes_on (run_of c.self.inside) c.self.inside.standing c.self.invariant
    (subst IsGoing (sym c.self.view_is) c.requires.going) c.args.event
    (subst (λ (r : Run). enabled (plan r.program) (state_of r) c.args.event ≡ true) (sym c.self.view_is) c.requires.enabled)
    c.take.new.standing c.push.new.self.items
    (c.push.ensures.items ∙ cond-true _ _ _ (c.is_err.ensures.negation ∙ ap not c.if-is_err.false)) refl refl
    c.in_ok-take.ensures.order c.in_ok-take.ensures.done c.in_ok-take.ensures.kept

pub returns-clause-done : goal.returns-clause-done
returns-clause-done c =
    subst
    (λ (r : Run). HasDone r c.args.event
    (run_of (record c.self.inside { standing = c.take.new.standing; history = c.push.new.self; stopped = None }))) c.self.view_is
    (has_done (run_of c.self.inside) c.self.inside.standing c.self.invariant
    (subst IsGoing (sym c.self.view_is) c.requires.going) c.args.event
    (subst (λ (r : Run). enabled (plan r.program) (state_of r) c.args.event ≡ true) (sym c.self.view_is) c.requires.enabled)
    c.take.new.standing c.push.new.self.items
    (c.push.ensures.items ∙ cond-true _ _ _ (c.is_err.ensures.negation ∙ ap not c.if-is_err.false)) refl refl
    c.in_ok-take.ensures.order c.in_ok-take.ensures.done c.in_ok-take.ensures.kept)
