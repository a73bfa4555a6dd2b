use Rattle.c_expressions.proofs.Going.{stop_fixed, go_fixed}
use Rattle.std.proofs.Common.{arith}
use Rattle.c_expressions.proofs.cursor.Cursor.expect_word.Goals as goal

pub returns-then-not-at_word-clause-read : goal.returns-then-not-at_word-clause-read
returns-then-not-at_word-clause-read c = grind (arith, stop_fixed)

pub returns-clause-read : goal.returns-clause-read
returns-clause-read c = grind (arith, go_fixed)
