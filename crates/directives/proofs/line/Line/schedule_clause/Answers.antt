use Rattle.directives.proofs.Sharing.{at_schedule, schedule_is, read_schedule}
use Rattle.std.proofs.Common.{arith}
use Rattle.directives.proofs.line.Line.schedule_clause.Goals as goal

pub returns-in_err-enter-clause-read : goal.returns-in_err-enter-clause-read
returns-in_err-enter-clause-read c = grind (arith, at_schedule)

pub returns-in_err-expect-clause-read : goal.returns-in_err-expect-clause-read
returns-in_err-expect-clause-read c = grind (arith, at_schedule)

pub returns-in_err-schedule-clause-read : goal.returns-in_err-schedule-clause-read
returns-in_err-schedule-clause-read c = grind (arith, at_schedule)

pub returns-in_err-chunk-clause-read : goal.returns-in_err-chunk-clause-read
returns-in_err-chunk-clause-read c = grind (arith, at_schedule)

pub returns-clause-read : goal.returns-clause-read
returns-clause-read c = grind (arith, at_schedule)

pub returns-clause-tree : goal.returns-clause-tree
returns-clause-tree c = grind (arith, schedule_is, read_schedule)
