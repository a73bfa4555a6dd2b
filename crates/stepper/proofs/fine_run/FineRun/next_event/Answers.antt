use Rattle.std.proofs.Common.{◌≡◌, arith, drop, length, sym, ap, ◌∙◌, subst}
use Rattle.base.specs.Items.{plan}
use Rattle.stepper.specs.Answering.{next_by}
use Rattle.stepper.specs.Run.{IsGoing, Run, state_of}
use Rattle.stepper.specs.Running.{run_of}
use Rattle.stepper.proofs.fine_run.FineRun.next_event.Goals as goal

pub returns : goal.returns
returns c =
    let r = run_of c.self.inside in
    let turn : c.len.result ≡ length c.self.inside.history.items = omega (arith, c.len.ensures, c.self.inside.history.ok) in
    subst (λ (x : Run). c.next_event.result ≡ next_by (plan x.program) (state_of x) (drop (length x.history) c.args.choices.now))
    c.self.view_is
    (c.next_event.ensures (plan r.program) (state_of r) (c.self.invariant.going (subst IsGoing (sym c.self.view_is) c.requires)).at
    ∙ ap (λ n. next_by (plan r.program) (state_of r) (drop n c.args.choices.now)) turn)
