use Rattle.erased_meaning.proofs.ErasedRuns.{erased_text_runs}
use Rattle.erased_meaning.proofs.erased_text_runs.Goals as goal

pub returns : goal.returns
returns c = erased_text_runs
