use Rattle.directives.proofs.Moves.{stop_sign, at_sign}
use Rattle.std.proofs.Common.{arith}
use Rattle.directives.proofs.line.Line.expect.Goals as goal

pub returns-then-not-at-clause-read : goal.returns-then-not-at-clause-read
returns-then-not-at-clause-read c = grind (arith, stop_sign)

pub returns-clause-read : goal.returns-clause-read
returns-clause-read c = grind (arith, at_sign)
