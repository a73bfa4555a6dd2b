use Rattle.mend_runs.proofs.Runs.{mend_runs_by_choices}
use Rattle.mend_runs.proofs.mend_runs_by_choices.Goals as goal

pub returns : goal.returns
returns c = mend_runs_by_choices
