use Rattle.std.proofs.Common.{List, length, ◌∙◌, sym, ap, arith}
use Rattle.std.specs.Prelude.{slice_get}
use Rattle.base.specs.Items.{plan}
use Rattle.base.specs.Machine.{all_enabled}
use Rattle.base.specs.declared.item.Event.{Event}
use Rattle.device.specs.Run.{Run, state_of}
use Rattle.device.specs.Running.{run_of}
use Rattle.device.proofs.Allowing.{none_next}
use Rattle.device.proofs.Reaching.{all_events, as_many_tasks, over, place_below}
use Rattle.device.proofs.Starts.{as_many}
use Rattle.device.proofs.state.RunState.nth_enabled.Goals as goal

pub returns-then-self : goal.returns-then-self
returns-then-self c =
    ap (λ (l : List Event). slice_get l c.args.place)
    (sym (none_next (plan (run_of c.self.inside).program) (state_of (run_of c.self.inside))
    (over (run_of c.self.inside) c.self.inside.standing c.self.invariant c.if-self.true))
    ∙ ap (λ (r : Run). all_enabled (plan r.program) (state_of r)) c.self.view_is)

pub nth_allowed-requires-clause-place : goal.nth_allowed-requires-clause-place
nth_allowed-requires-clause-place c =
    let below = place_below (run_of c.self.inside) c.self.inside.standing c.self.invariant in
    let many = as_many _ c.items-items.result.now _ c.items-items.ensures.shown in
    let few = c.items-items.ensures.few in
    omega arith

pub returns : goal.returns
returns c =
    let r = run_of c.self.inside in
    let graph = c.self.inside.standing.graph in
    c.nth_allowed.ensures
    ∙ ap (λ (l : List Event). slice_get l c.args.place)
    (all_events r c.self.inside.standing (length graph.tasks) c.self.invariant c.if-self.false
    (as_many_tasks r c.self.inside.standing c.self.invariant)
    ∙ ap (λ (r : Run). all_enabled (plan r.program) (state_of r)) c.self.view_is)
