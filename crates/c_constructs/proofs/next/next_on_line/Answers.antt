use Rattle.c_constructs.proofs.Passing.{passes, is_read}
use Rattle.c_constructs.proofs.Taken.{misnamed_line}
use Rattle.std.proofs.Common.{arith}
use Rattle.c_constructs.proofs.next.next_on_line.Goals as goal

pub returns-in-Ok-clause-means : goal.returns-in-Ok-clause-means
returns-in-Ok-clause-means c = grind (arith, is_read)

pub returns-in-Ok-clause-passes : goal.returns-in-Ok-clause-passes
returns-in-Ok-clause-passes c = grind (arith, passes)

pub returns-clause-fault : goal.returns-clause-fault
returns-clause-fault c = grind (arith, misnamed_line)
