use Rattle.std.proofs.Common.{arith}
use Rattle.std.proofs.lemmas.Grind.{common_steps}
use Rattle.counters.proofs.Counters.is_enabled.Goals as goal

pub returns-then-index : goal.returns-then-index
returns-then-index c = grind (arith, common_steps)

pub returns-else-index : goal.returns-else-index
returns-else-index c = grind (arith, common_steps)

pub returns-then-matches : goal.returns-then-matches
returns-then-matches c = grind (arith, common_steps)

pub returns-else-matches : goal.returns-else-matches
returns-else-matches c = grind (arith, common_steps)

pub returns-in-Opened : goal.returns-in-Opened
returns-in-Opened c = grind (arith, common_steps)

pub returns-in_default-matches-2 : goal.returns-in_default-matches-2
returns-in_default-matches-2 c = grind (arith, common_steps)
