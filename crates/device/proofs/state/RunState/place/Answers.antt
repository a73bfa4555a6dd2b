use Rattle.std.proofs.Common.{length, sym, ap, ◌∙◌}
use Rattle.device.specs.Run.{Run, state_of}
use Rattle.device.specs.Running.{run_of}
use Rattle.device.proofs.Places.{place_after_end}
use Rattle.device.proofs.Reaching.{same_place}
use Rattle.device.proofs.Starts.{as_many}
use Rattle.device.proofs.state.RunState.place.Goals as goal

pub returns-then-self : goal.returns-then-self
returns-then-self c =
    place_after_end (run_of c.self.inside) c.self.inside.standing (length c.items.result.now) c.self.invariant c.if-self.true
    (as_many _ c.items.result.now _ c.items.ensures.shown)
    ∙ ap (λ (r : Run). (state_of r).place) c.self.view_is

pub returns : goal.returns
returns c =
    c.place.ensures ∙ sym (same_place (run_of c.self.inside) c.self.inside.standing c.self.invariant c.if-self.false)
    ∙ ap (λ (r : Run). (state_of r).place) c.self.view_is
