use Rattle.c_expressions.proofs.Misfits.{unworked_misfits, unknown_misfits, short_misfits, others_misfit, number_misfits, long_misfits, line_misfits, foreign_misfits}
use Rattle.std.proofs.Common.{arith}
use Rattle.c_expressions.proofs.cursor.Cursor.misfit.Goals as goal

pub returns-then-name-gt-MAX_NAME : goal.returns-then-name-gt-MAX_NAME
returns-then-name-gt-MAX_NAME c = grind (arith, long_misfits)

pub returns-in-Unknown : goal.returns-in-Unknown
returns-in-Unknown c = grind (arith, unknown_misfits)

pub returns-in-BadNumber : goal.returns-in-BadNumber
returns-in-BadNumber c = grind (arith, number_misfits)

pub returns-else-name-gt-MAX_NAME : goal.returns-else-name-gt-MAX_NAME
returns-else-name-gt-MAX_NAME c = grind (arith, short_misfits)

pub returns-in-None : goal.returns-in-None
returns-in-None c = grind (arith, line_misfits)

pub returns-in-Some : goal.returns-in-Some
returns-in-Some c = grind (arith, foreign_misfits)

pub returns-in_default : goal.returns-in_default
returns-in_default c = grind (arith, others_misfit)

pub returns-in-Unworked : goal.returns-in-Unworked
returns-in-Unworked c = grind (arith, unworked_misfits)
