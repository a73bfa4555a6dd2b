use Rattle.c_expressions.proofs.Terms.{skip_tail}
use Rattle.std.proofs.Common.{arith}
use Rattle.c_expressions.proofs.scope.Scope.value.Goals as goal

pub returns-clause-read : goal.returns-clause-read
returns-clause-read c = grind (arith, skip_tail)
