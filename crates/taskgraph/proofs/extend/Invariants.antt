use Rattle.taskgraph.proofs.Ends.{Loop}
use Rattle.taskgraph.proofs.extend.Given as goal

abbrev pub invariant-earlier : goal.invariant-earlier
invariant-earlier l = Loop l.tasks l.start l.item l.earlier l.fn.ends l.ends
