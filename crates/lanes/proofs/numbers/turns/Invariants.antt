use Rattle.std.proofs.Common.{◌+◌}
use Rattle.lanes.proofs.Rows.{Done}
use Rattle.lanes.proofs.numbers.turns.Given as goal

abbrev pub invariant-lanes : goal.invariant-lanes
invariant-lanes l = Done (λ k x. l.first + k) l.fn.d l.d l.j
