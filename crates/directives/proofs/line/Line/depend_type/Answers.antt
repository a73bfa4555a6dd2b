use Rattle.directives.proofs.Typing.{stop_depend, at_depend}
use Rattle.std.proofs.Common.{arith}
use Rattle.directives.proofs.line.Line.depend_type.Goals as goal

pub returns-in_err-enter-in-Some-clause-read : goal.returns-in_err-enter-in-Some-clause-read
returns-in_err-enter-in-Some-clause-read c = grind (arith, at_depend)

pub returns-in_err-expect-in-Some-clause-read : goal.returns-in_err-expect-in-Some-clause-read
returns-in_err-expect-in-Some-clause-read c = grind (arith, at_depend)

pub returns-in_ok-expect-in-Some-clause-read : goal.returns-in_ok-expect-in-Some-clause-read
returns-in_ok-expect-in-Some-clause-read c = grind (arith, at_depend)

pub returns-in-None-clause-read : goal.returns-in-None-clause-read
returns-in-None-clause-read c = grind (arith, stop_depend)
