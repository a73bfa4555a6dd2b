use Rattle.directives.proofs.Bounding.{number_term, at_star, no_star}
use Rattle.std.proofs.Common.{arith}
use Rattle.directives.proofs.line.Line.product.Goals as goal

pub returns-in_err-enter-clause-read : goal.returns-in_err-enter-clause-read
returns-in_err-enter-clause-read c = grind (arith, number_term)

pub returns-then-not-at-clause-read : goal.returns-then-not-at-clause-read
returns-then-not-at-clause-read c = grind (arith, number_term, no_star)

pub returns-in_err-enter-2-clause-read : goal.returns-in_err-enter-2-clause-read
returns-in_err-enter-2-clause-read c = grind (arith, number_term, at_star)

pub returns-in_err-name-clause-read : goal.returns-in_err-name-clause-read
returns-in_err-name-clause-read c = grind (arith, number_term, at_star)

pub returns-clause-read : goal.returns-clause-read
returns-clause-read c = grind (arith, number_term, at_star)
