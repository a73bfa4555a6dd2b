use Rattle.order.specs.Clashes.{NoClashBelow}
use Rattle.order.proofs.clash.first_clash.Given as goal

abbrev pub invariant-loop-item : goal.invariant-loop-item
invariant-loop-item l = NoClashBelow l.items l.item
