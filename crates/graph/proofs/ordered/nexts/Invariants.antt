use Rattle.base.specs.Items.{plan}
use Rattle.graph.proofs.Found.{FoundBelow}
use Rattle.graph.proofs.ordered.nexts.Given as goal

abbrev pub invariant-loop-next : goal.invariant-loop-next
invariant-loop-next l = FoundBelow (plan l.order) l.item l.next l.found.items
