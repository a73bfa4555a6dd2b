use Rattle.frames.proofs.TouchedCells.{touched_cells_decide}
use Rattle.frames.proofs.touched_cells_decide.Goals as goal

pub returns : goal.returns
returns c = touched_cells_decide
