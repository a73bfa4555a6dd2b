use Rattle.std.proofs.Common.{◌∙◌, sym, ap, arith}
use Rattle.std.proofs.lemmas.Result.{IfOk-weaker}
use Rattle.base.specs.Items.{plan}
use Rattle.base.specs.Machine.{all_enabled}
use Rattle.device.specs.Run.{Run, state_of}
use Rattle.device.specs.Running.{run_of}
use Rattle.device.proofs.Allowing.{none_next}
use Rattle.device.proofs.Reaching.{all_events, over, place_below, same_tasks}
use Rattle.device.proofs.Starts.{as_many}
use Rattle.device.proofs.state.RunState.enabled.Goals as goal

pub returns-then-self : goal.returns-then-self
returns-then-self c =
    c.new.ensures.items
    ∙ sym (none_next (plan (run_of c.self.inside).program) (state_of (run_of c.self.inside))
    (over (run_of c.self.inside) c.self.inside.standing c.self.invariant c.if-self.true))
    ∙ ap (λ (r : Run). all_enabled (plan r.program) (state_of r)) c.self.view_is

pub all_allowed-requires-clause-tasks : goal.all_allowed-requires-clause-tasks
all_allowed-requires-clause-tasks c =
    same_tasks (run_of c.self.inside) c.self.inside.standing _ c.items.result.now c.self.invariant c.items.ensures.shown

pub all_allowed-requires-clause-place : goal.all_allowed-requires-clause-place
all_allowed-requires-clause-place c =
    let below = place_below (run_of c.self.inside) c.self.inside.standing c.self.invariant in
    let many = as_many _ c.items.result.now _ c.items.ensures.shown in
    let few = c.items.ensures.few in
    omega arith

pub returns : goal.returns
returns c =
    IfOk-weaker c.all_allowed.result _ _
    (λ events h. h ∙ all_events (run_of c.self.inside) c.self.inside.standing _ c.self.invariant c.if-self.false
    (as_many _ c.items.result.now _ c.items.ensures.shown)
    ∙ ap (λ (r : Run). all_enabled (plan r.program) (state_of r)) c.self.view_is)
    c.all_allowed.ensures
