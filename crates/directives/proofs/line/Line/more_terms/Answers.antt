use Rattle.directives.proofs.BoundsRead.{read_more}
use Rattle.std.proofs.Common.{arith}
use Rattle.directives.proofs.line.Line.more_terms.Goals as goal

pub terms-preserved : goal.terms-preserved
terms-preserved c = grind (arith, read_more)
