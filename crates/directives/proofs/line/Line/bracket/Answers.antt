use Rattle.directives.proofs.Bounding.{stop_bracket, at_bracket}
use Rattle.std.proofs.Common.{arith}
use Rattle.directives.proofs.line.Line.bracket.Goals as goal

pub returns-then-not-at-clause-read : goal.returns-then-not-at-clause-read
returns-then-not-at-clause-read c = grind (arith, stop_bracket)

pub returns-clause-read : goal.returns-clause-read
returns-clause-read c = grind (arith, at_bracket)
