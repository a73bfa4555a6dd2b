use Rattle.std.specs.Prelude.{slice_index}
use Rattle.lanes.specs.Numbers.{either_holds}
use Rattle.lanes.proofs.Rows.{Done}
use Rattle.lanes.proofs.numbers.or.Given as goal

abbrev pub invariant-lanes : goal.invariant-lanes
invariant-lanes l = Done (λ k x. either_holds x (slice_index l.s k)) l.fn.d l.d l.j
