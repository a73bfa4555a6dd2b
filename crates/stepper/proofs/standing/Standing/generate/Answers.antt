use Rattle.std.proofs.Common.{refl}
use Rattle.base.proofs.Runs.{enabled_Gen}
use Rattle.fine_machine.specs.Machine.{as_whole}
use Rattle.stepper.proofs.Following.{generated}
use Rattle.stepper.proofs.standing.Standing.generate.Goals as goal

pub returns-clause-generated : goal.returns-clause-generated
returns-clause-generated c plan s t at may e =
    generated plan c.args.self.now s t at c.requires.going c.generate.new.self c.args.item c.in_ok-captured.captured _
    (enabled_Gen plan (as_whole s) c.args.item may).0
    c.generate.ensures refl c.requires.inside c.in_ok-captured.ensures e
