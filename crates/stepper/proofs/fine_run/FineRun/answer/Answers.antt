use Rattle.std.proofs.Common.{sym, subst}
use Rattle.std.proofs.lemmas.Result.{IfOk-weaker}
use Rattle.stepper.specs.Run.{IsGoing}
use Rattle.stepper.specs.Running.{IsAnswerAt, run_of}
use Rattle.stepper.proofs.Fines.{answer_at}
use Rattle.stepper.proofs.fine_run.FineRun.answer.Goals as goal

pub returns : goal.returns
returns c =
    IfOk-weaker c.answer_of.result _ (IsAnswerAt c.args.self c.args.arrays.now)
    (λ a of.
    subst (λ r. IsAnswerAt r c.args.arrays.now a) c.self.view_is
    (answer_at (run_of c.self.inside) c.self.inside.standing c.args.arrays.now a
    (c.self.invariant.going (subst IsGoing (sym c.self.view_is) c.requires)).at of))
    c.answer_of.ensures
