use Rattle.c_expressions.proofs.Expressions.{read_before}
use Rattle.std.proofs.Common.{arith}
use Rattle.c_expressions.proofs.scope.Scope.expr.Goals as goal

pub returns-clause-tree : goal.returns-clause-tree
returns-clause-tree c = grind (arith, read_before)
