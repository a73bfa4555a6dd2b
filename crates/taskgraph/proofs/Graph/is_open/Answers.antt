use Rattle.std.proofs.Common.{arith}
use Rattle.std.proofs.lemmas.Grind.{common_steps}
use Rattle.taskgraph.proofs.Graph.is_open.Goals as goal

pub returns-then-item-len-clause-open : goal.returns-then-item-len-clause-open
returns-then-item-len-clause-open c = grind (arith, common_steps)

pub returns-then-item-len-clause-close : goal.returns-then-item-len-clause-close
returns-then-item-len-clause-close c = grind (arith, common_steps)

pub index-requires : goal.index-requires
index-requires c = grind (arith, common_steps)

pub returns-in-Open-clause-open : goal.returns-in-Open-clause-open
returns-in-Open-clause-open c = grind (arith, common_steps)

pub returns-in_default : goal.returns-in_default
returns-in_default c = grind (arith, common_steps)
