use Rattle.directives.proofs.BoundsRead.{read_second}
use Rattle.std.proofs.Common.{arith}
use Rattle.directives.proofs.line.Line.second_bound.Goals as goal

pub returns-clause-tree : goal.returns-clause-tree
returns-clause-tree c = grind (arith, read_second)
