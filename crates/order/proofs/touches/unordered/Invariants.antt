use Rattle.order.specs.Touches.{AreSome}
use Rattle.order.proofs.touches.unordered.Given as goal

abbrev pub invariant-loop-item : goal.invariant-loop-item
invariant-loop-item l = AreSome l.items l.written l.item l.touches.items
