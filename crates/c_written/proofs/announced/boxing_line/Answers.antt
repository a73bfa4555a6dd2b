use Rattle.std.proofs.Common.{◌∙◌, ap}
use Rattle.directives.specs.Seen.{is_whole}
use Rattle.c_written.specs.Boxes.{texts}
use Rattle.c_written.proofs.Boxing.{boxing_whole}
use Rattle.c_written.proofs.announced.boxing_line.Goals as goal

pub of-requires : goal.of-requires
of-requires c = ap is_whole c.in_ok-words.ensures ∙ boxing_whole c.args.column (texts c.args.names.now)
