use Rattle.frames.proofs.TouchedCells.{least_runs_reach}
use Rattle.frames.proofs.least_runs_reach.Goals as goal

pub returns : goal.returns
returns c = least_runs_reach
