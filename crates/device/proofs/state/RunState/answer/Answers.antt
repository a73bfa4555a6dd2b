use Rattle.std.proofs.Common.{subst}
use Rattle.base.specs.Items.{plan}
use Rattle.mapcheck.specs.Third.{AreMarked}
use Rattle.device.specs.Run.{Run}
use Rattle.device.proofs.Answers.{is_run_answer}
use Rattle.device.proofs.state.RunState.answer.Goals as goal

pub returns-in-Ok : goal.returns-in-Ok
returns-in-Ok c =
    is_run_answer c.marked-marked.result.now c.args.self.now c.in-Ok.answer c.is_reached.ensures.reached c.requires
    (subst (λ (r : Run). AreMarked (plan r.program) c.marked-marked.result.now) c.self.view_is c.marked-marked.ensures)
    c.in-Ok.ensures
