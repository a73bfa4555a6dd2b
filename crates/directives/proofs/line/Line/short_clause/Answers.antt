use Rattle.directives.proofs.Clausing.{at_nowait, nowait_is}
use Rattle.directives.proofs.ClausesRead.{read_nowait}
use Rattle.std.proofs.Common.{arith}
use Rattle.directives.proofs.line.Line.short_clause.Goals as goal

pub returns-in_err-enter-clause-read : goal.returns-in_err-enter-clause-read
returns-in_err-enter-clause-read c = grind (arith, at_nowait)

pub returns-then-at_nowait-clause-read : goal.returns-then-at_nowait-clause-read
returns-then-at_nowait-clause-read c = grind (arith, at_nowait)

pub returns-then-at_nowait-clause-tree : goal.returns-then-at_nowait-clause-tree
returns-then-at_nowait-clause-tree c = grind (arith, nowait_is, read_nowait)
