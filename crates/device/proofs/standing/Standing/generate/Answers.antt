use Rattle.std.proofs.lemmas.List.{map-set}
use Rattle.device.specs.Standing.{issue_of}
use Rattle.std.proofs.Common.{refl}
use Rattle.device.proofs.Steps.{generated}
use Rattle.device.proofs.standing.Standing.generate.Goals as goal

pub returns-clause-generated : goal.returns-clause-generated
returns-clause-generated c plan s t at may e =
    generated plan c.args.self.now s t at c.requires.going c.generate.new.self c.args.item c.in_ok-captured.captured _
    c.generate.ensures refl c.requires.inside c.in_ok-captured.ensures e

pub returns-clause-issued : goal.returns-clause-issued
returns-clause-issued c = map-set issue_of c.args.self.now.held.items c.args.item _
