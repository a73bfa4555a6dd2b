use Rattle.stepper.specs.Sides.{move_of}
use Rattle.stepper.proofs.MayDo.{may_happen}
use Rattle.stepper.proofs.sides.FineRunMachine.step.Goals as goal

pub take-requires-clause-enabled : goal.take-requires-clause-enabled
take-requires-clause-enabled c =
    may_happen c.args.state.now (move_of c.args.turn.now) c.event_of.result c.requires.1 c.event_of.ensures
