use Rattle.c_written.specs.Boxes.{texts}
use Rattle.c_written.proofs.Boxing.{boxing_item}
use Rattle.c_written.proofs.announced.boxing_at.Goals as goal

pub returns : goal.returns
returns c = boxing_item c.args.token (texts c.args.names.now) _ c.in_ok-boxing_line.ensures
