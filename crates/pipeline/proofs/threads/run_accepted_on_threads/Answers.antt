use Rattle.std.proofs.Common.{subst}
use Rattle.std.specs.Prelude.{IfOk}
use Rattle.device.specs.Room.{IsAnswerWithin}
use Rattle.host.specs.Threads.{IsThreadAnswer}
use Rattle.pipeline.specs.Source.{on_threads}
use Rattle.pipeline.proofs.Runs.{both}
use Rattle.pipeline.proofs.threads.run_accepted_on_threads.Goals as goal

pub returns-clause-answer : goal.returns-clause-answer
returns-clause-answer g c =
    subst (λ p. IfOk c.run_threads.result (on_threads c.args.input.now c.args.capacity p)) c.in-Ok.ensures
    (both (IsThreadAnswer c.in-Ok.image c.args.input.now)
    (IsAnswerWithin c.in-Ok.image c.args.input.now c.args.capacity) c.run_threads.result c.run_threads.ensures.answer
    c.run_threads.ensures.within)
