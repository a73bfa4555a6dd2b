use Rattle.frames.proofs.TouchedCells.{stores_are_cells}
use Rattle.frames.proofs.stores_are_cells.Goals as goal

pub returns : goal.returns
returns c = stores_are_cells
