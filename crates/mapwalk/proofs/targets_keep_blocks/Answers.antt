use Rattle.mapwalk.proofs.KeptBlocks.{kept_blocks}
use Rattle.mapwalk.proofs.targets_keep_blocks.Goals as goal

pub returns : goal.returns
returns c = kept_blocks
