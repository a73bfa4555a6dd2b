use Rattle.base.specs.Value.{divided}
use Rattle.lanes.proofs.Rows.{Done}
use Rattle.lanes.proofs.numbers.each_quotient.Given as goal

abbrev pub invariant-lanes : goal.invariant-lanes
invariant-lanes l = Done (λ k x. divided l.op x l.n.value) l.fn.d l.d l.j
