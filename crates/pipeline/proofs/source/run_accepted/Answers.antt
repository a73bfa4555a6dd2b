use Rattle.std.proofs.Common.{subst}
use Rattle.std.specs.Prelude.{IfOk}
use Rattle.base.specs.Answer.{IsAnswer}
use Rattle.device.specs.Room.{IsAnswerWithin}
use Rattle.pipeline.specs.Source.{by_choices}
use Rattle.pipeline.proofs.Runs.{both}
use Rattle.pipeline.proofs.source.run_accepted.Goals as goal

pub returns-clause-answer : goal.returns-clause-answer
returns-clause-answer c =
    subst (λ p. IfOk c.run_choices.result (by_choices c.args.input.now c.args.choices.now c.args.capacity p)) c.in-Ok.ensures
    (both (IsAnswer c.in-Ok.image c.args.input.now c.args.choices.now)
    (IsAnswerWithin c.in-Ok.image c.args.input.now c.args.capacity) c.run_choices.result c.run_choices.ensures.answer
    c.run_choices.ensures.within)
