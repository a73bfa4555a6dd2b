use Rattle.frames.proofs.TouchedCells.{kernel_frame_means}
use Rattle.frames.proofs.kernel_frame_means.Goals as goal

pub returns : goal.returns
returns c = kernel_frame_means
