use Rattle.std.proofs.Common.{arith}
use Rattle.std.proofs.lemmas.Grind.{common_steps}
use Rattle.counters.proofs.Counters.can_wait.Goals as goal

pub returns-then-self-i : goal.returns-then-self-i
returns-then-self-i c = grind (arith, common_steps)

pub returns-else-self-i : goal.returns-else-self-i
returns-else-self-i c = grind (arith, common_steps)
