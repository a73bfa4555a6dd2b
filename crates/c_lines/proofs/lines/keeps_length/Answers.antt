use Rattle.c_lines.proofs.Lengths.{keeps_length}
use Rattle.c_lines.proofs.lines.keeps_length.Goals as goal

pub returns : goal.returns
returns c = keeps_length
