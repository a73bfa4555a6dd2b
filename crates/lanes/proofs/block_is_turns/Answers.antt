use Rattle.lanes.proofs.Blocks.{block_is_turns}
use Rattle.lanes.proofs.block_is_turns.Goals as goal

pub returns : goal.returns
returns c = block_is_turns
