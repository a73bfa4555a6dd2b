use Rattle.order.specs.Clashes.{NoneBelow}
use Rattle.order.proofs.clash.clash_before.Given as goal

abbrev pub invariant-loop-other : goal.invariant-loop-other
invariant-loop-other l = NoneBelow l.items l.other l.item
