use Rattle.actions.proofs.HostCells.{has_length}
use Rattle.actions.proofs.single.has_cell.Goals as goal

pub returns : goal.returns
returns c = has_length c.args.host.now c.args.cell c.length.result c.length.ensures
