use Rattle.directives.proofs.Listing.{stop_name, at_name}
use Rattle.std.proofs.Common.{arith}
use Rattle.directives.proofs.line.Line.array.Goals as goal

pub returns-in_err-enter-in-Name-clause-read : goal.returns-in_err-enter-in-Name-clause-read
returns-in_err-enter-in-Name-clause-read c = grind (arith, at_name)

pub returns-in_ok-enter-in-Name-clause-read : goal.returns-in_ok-enter-in-Name-clause-read
returns-in_ok-enter-in-Name-clause-read c = grind (arith, at_name)

pub returns-in_default : goal.returns-in_default
returns-in_default c = grind (arith, stop_name)
