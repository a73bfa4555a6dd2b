use Rattle.frames.proofs.KeptRuns.{kept_leaves}
use Rattle.frames.proofs.kept_leaves.Goals as goal

pub returns : goal.returns
returns c = kept_leaves
