use Rattle.mend_runs.proofs.Runs.{mend_steps}
use Rattle.mend_runs.proofs.mend_steps.Goals as goal

pub returns : goal.returns
returns c = mend_steps
