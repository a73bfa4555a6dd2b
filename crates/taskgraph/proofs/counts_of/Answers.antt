use Rattle.std.proofs.Common.{arith}
use Rattle.std.proofs.lemmas.Grind.{common_steps}
use Rattle.taskgraph.proofs.counts_of.Goals as goal

pub bounds-starts-item : goal.bounds-starts-item
bounds-starts-item c = grind (arith, common_steps)

pub predecessors-requires-clause-start : goal.predecessors-requires-clause-start
predecessors-requires-clause-start c = grind (arith, common_steps)
