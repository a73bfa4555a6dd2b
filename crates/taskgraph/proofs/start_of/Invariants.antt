use Rattle.taskgraph.specs.Waiting.{plan_for}
use Rattle.taskgraph.proofs.Starts.{IsScan}
use Rattle.taskgraph.proofs.start_of.Given as goal

abbrev pub decreases-earlier : goal.decreases-earlier
decreases-earlier l = l.earlier

abbrev pub invariant-earlier : goal.invariant-earlier
invariant-earlier l = IsScan (plan_for l.tasks) l.item l.earlier l.start
