use Rattle.std.proofs.Common.{◌∙◌, ap}
use Rattle.std.specs.Prelude.{not}
use Rattle.base.specs.Items.{plan}
use Rattle.base.specs.Machine.{enabled}
use Rattle.device.specs.Run.{Run, state_of}
use Rattle.device.specs.Running.{run_of}
use Rattle.device.proofs.Allowing.{never}
use Rattle.device.proofs.Reaching.{over, same_events}
use Rattle.device.proofs.state.RunState.is_enabled.Goals as goal

pub returns-then-not-self : goal.returns-then-not-self
returns-then-not-self c =
    c.is_allowed.ensures
    ∙ same_events (run_of c.self.inside) c.self.inside.standing c.self.invariant c.if-not-self.true c.args.event
    ∙ ap (λ (r : Run). enabled (plan r.program) (state_of r) c.args.event) c.self.view_is

pub returns-else-not-self : goal.returns-else-not-self
returns-else-not-self c =
    ap not c.if-not-self.false
    ∙ never _ (over (run_of c.self.inside) c.self.inside.standing c.self.invariant c.if-not-self.false c.args.event)
    ∙ ap (λ (r : Run). enabled (plan r.program) (state_of r) c.args.event) c.self.view_is
