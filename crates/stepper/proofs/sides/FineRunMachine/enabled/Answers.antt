use Rattle.std.proofs.Common.{ap, ◌∙◌}
use Rattle.base.specs.Items.{plan}
use Rattle.fine_machine.specs.Machine.{enabled}
use Rattle.stepper.specs.Run.{state_of}
use Rattle.stepper.specs.Sides.{move_of}
use Rattle.stepper.proofs.MayDo.{may_do}
use Rattle.stepper.proofs.sides.FineRunMachine.enabled.Goals as goal

pub returns : goal.returns
returns c =
    let r = c.args.state.now in
    may_do r (move_of c.args.turn.now) c.is_enabled.result c.is_enabled.ensures.stopped
    (λ going. (c.has_come.ensures going).sound)
    (λ going. c.is_enabled.ensures.going going ∙ ap (enabled (plan r.program) (state_of r)) c.event_of.ensures)
