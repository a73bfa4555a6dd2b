use Rattle.directives.proofs.Bounding.{stop_term, name_term, bad_term}
use Rattle.std.proofs.Common.{arith}
use Rattle.directives.proofs.line.Line.term.Goals as goal

pub returns-in_err-enter-in-Name-clause-read : goal.returns-in_err-enter-in-Name-clause-read
returns-in_err-enter-in-Name-clause-read c = grind (arith, name_term)

pub returns-in-BadNumber-clause-read : goal.returns-in-BadNumber-clause-read
returns-in-BadNumber-clause-read c = grind (arith, bad_term)

pub returns-in_ok-enter-in-Name-clause-read : goal.returns-in_ok-enter-in-Name-clause-read
returns-in_ok-enter-in-Name-clause-read c = grind (arith, name_term)

pub returns-in_default : goal.returns-in_default
returns-in_default c = grind (arith, stop_term)
