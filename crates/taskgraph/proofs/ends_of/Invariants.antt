use Rattle.taskgraph.specs.Waiting.{AreEndsTo, plan_for}
use Rattle.taskgraph.proofs.ends_of.Given as goal

abbrev pub invariant-items : goal.invariant-items
invariant-items l = AreEndsTo (plan_for l.tasks) l.starts l.ends.items l.item
