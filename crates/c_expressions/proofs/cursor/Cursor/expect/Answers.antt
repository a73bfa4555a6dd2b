use Rattle.c_expressions.proofs.Going.{stop_want, go_plain}
use Rattle.std.proofs.Common.{arith}
use Rattle.c_expressions.proofs.cursor.Cursor.expect.Goals as goal

pub returns-then-not-at-clause-read : goal.returns-then-not-at-clause-read
returns-then-not-at-clause-read c = grind (arith, stop_want)

pub returns-clause-read : goal.returns-clause-read
returns-clause-read c = grind (arith, go_plain)
