use Rattle.stepper.proofs.Following.{ends}
use Rattle.stepper.proofs.standing.Standing.end.Goals as goal

pub returns-clause-ended : goal.returns-clause-ended
returns-clause-ended c plan s t at may e = ends plan c.args.self.now s t at c.requires may e
