use Rattle.c_expressions.proofs.Going.{stop_want}
use Rattle.c_expressions.proofs.Spending.{go_close}
use Rattle.std.proofs.Common.{arith}
use Rattle.c_expressions.proofs.scope.Scope.close_bracket.Goals as goal

pub returns-then-not-at-clause-read : goal.returns-then-not-at-clause-read
returns-then-not-at-clause-read c = grind (arith, stop_want)

pub returns-clause-read : goal.returns-clause-read
returns-clause-read c = grind (arith, go_close)
