use Rattle.lanes.proofs.Rows.{Done}
use Rattle.lanes.proofs.numbers.fill.Given as goal

abbrev pub invariant-lanes : goal.invariant-lanes
invariant-lanes l = Done (λ k x. l.n) l.fn.d l.d l.j
