use Rattle.ranges.proofs.TurnMarks.{ones_whole}
use Rattle.ranges.proofs.row_turns.whole.Goals as goal

pub returns : goal.returns
returns c = ones_whole c.args.cells c.if-cells-ne1.false c.if-cells.false c.requires
