use Rattle.base.proofs.Runs.{enabled_Wait}
use Rattle.fine_machine.specs.Machine.{as_whole}
use Rattle.stepper.proofs.Following.{passed}
use Rattle.stepper.proofs.standing.Standing.pass.Goals as goal

pub returns-clause-passed : goal.returns-clause-passed
returns-clause-passed c plan s t at may e =
    passed plan c.args.self.now s t at c.requires.going c.waited.new.self c.args.item
    (enabled_Wait plan (as_whole s) c.args.item may).0 c.waited.ensures e
