use Rattle.kernel.specs.Loops.{AreSettled}
use Rattle.kernel.proofs.Anys.{Enough}
use Rattle.kernel.proofs.apart.+settled.Given as goal

abbrev pub invariant-are_settled-loop-s : goal.invariant-are_settled-loop-s
invariant-are_settled-loop-s l = Enough (AreSettled l.body) l.some l.s-index
