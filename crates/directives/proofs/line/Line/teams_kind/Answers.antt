use Rattle.directives.proofs.Heading.{at_distribute, at_teams_loop, stop_teams}
use Rattle.std.proofs.Common.{arith}
use Rattle.directives.proofs.line.Line.teams_kind.Goals as goal

pub returns-in_err-enter-clause-read : goal.returns-in_err-enter-clause-read
returns-in_err-enter-clause-read c = grind (arith, at_distribute)

pub returns-in_err-construct-clause-read : goal.returns-in_err-construct-clause-read
returns-in_err-construct-clause-read c = grind (arith, at_distribute)

pub returns-then-at_word-clause-read : goal.returns-then-at_word-clause-read
returns-then-at_word-clause-read c = grind (arith, at_distribute)

pub returns-in_err-enter-2-clause-read : goal.returns-in_err-enter-2-clause-read
returns-in_err-enter-2-clause-read c = grind (arith, at_teams_loop)

pub returns-then-at_word-2-clause-read : goal.returns-then-at_word-2-clause-read
returns-then-at_word-2-clause-read c = grind (arith, at_teams_loop)

pub returns-clause-read : goal.returns-clause-read
returns-clause-read c = grind (arith, stop_teams)
