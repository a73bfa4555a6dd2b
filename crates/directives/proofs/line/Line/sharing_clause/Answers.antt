use Rattle.directives.proofs.Clausing.{stop_clause}
use Rattle.std.proofs.Common.{arith}
use Rattle.directives.proofs.line.Line.sharing_clause.Goals as goal

pub returns-clause-read : goal.returns-clause-read
returns-clause-read c = grind (arith, stop_clause)
