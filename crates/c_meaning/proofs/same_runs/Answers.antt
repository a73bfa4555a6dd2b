use Rattle.c_meaning.proofs.Statements.{same_runs}
use Rattle.c_meaning.proofs.same_runs.Goals as goal

pub returns : goal.returns
returns c = same_runs
