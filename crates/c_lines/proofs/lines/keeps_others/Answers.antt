use Rattle.c_lines.proofs.Others.{keeps_others}
use Rattle.c_lines.proofs.lines.keeps_others.Goals as goal

pub returns : goal.returns
returns c = keeps_others
