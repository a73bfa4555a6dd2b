use Rattle.lanes.proofs.Sums.{sum_is_turns}
use Rattle.lanes.proofs.sum_is_turns.Goals as goal

pub returns : goal.returns
returns c = sum_is_turns
