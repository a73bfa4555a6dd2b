use Rattle.directives.proofs.BoundsRead.{read_two}
use Rattle.std.proofs.Common.{arith}
use Rattle.directives.proofs.line.Line.two_bounds.Goals as goal

pub returns-clause-tree : goal.returns-clause-tree
returns-clause-tree c = grind (arith, read_two)
