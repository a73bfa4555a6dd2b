use Rattle.mend_runs.proofs.Runs.{mend_runs_on_threads}
use Rattle.mend_runs.proofs.mend_runs_on_threads.Goals as goal

pub returns : goal.returns
returns c = mend_runs_on_threads
