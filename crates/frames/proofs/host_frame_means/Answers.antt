use Rattle.frames.proofs.TouchedCells.{host_frame_means}
use Rattle.frames.proofs.host_frame_means.Goals as goal

pub returns : goal.returns
returns c = host_frame_means
