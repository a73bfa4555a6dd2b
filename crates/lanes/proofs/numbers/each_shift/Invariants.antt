use Rattle.base.specs.Value.{shifted}
use Rattle.lanes.proofs.Rows.{Done}
use Rattle.lanes.proofs.numbers.each_shift.Given as goal

abbrev pub invariant-lanes : goal.invariant-lanes
invariant-lanes l = Done (λ k x. shifted l.op x l.n.count) l.fn.d l.d l.j
