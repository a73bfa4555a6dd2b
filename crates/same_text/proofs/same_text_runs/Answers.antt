use Rattle.same_text.proofs.Laws.{same_text_runs}
use Rattle.same_text.proofs.same_text_runs.Goals as goal

pub returns : goal.returns
returns c = same_text_runs
