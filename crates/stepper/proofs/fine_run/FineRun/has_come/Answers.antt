use Rattle.std.proofs.Common.{arith, sym, subst}
use Rattle.stepper.specs.Run.{IsGoing}
use Rattle.stepper.specs.Running.{HasCome, run_of}
use Rattle.stepper.proofs.GoesOn.{has_come}
use Rattle.stepper.proofs.fine_run.FineRun.has_come.Goals as goal

pub returns : goal.returns
returns c going =
    subst HasCome c.self.view_is
    (has_come (run_of c.self.inside) c.self.inside.standing c.self.invariant (subst IsGoing (sym c.self.view_is) going)
    (omega (arith, c.self.inside.history.ok)))
