use Rattle.base.specs.Value.{binary}
use Rattle.lanes.proofs.Rows.{Done}
use Rattle.lanes.proofs.numbers.each_number.Given as goal

abbrev pub invariant-lanes : goal.invariant-lanes
invariant-lanes l = Done (λ k x. binary l.op x l.n) l.fn.d l.d l.j
