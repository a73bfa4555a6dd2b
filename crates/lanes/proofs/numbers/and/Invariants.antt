use Rattle.std.specs.Prelude.{slice_index}
use Rattle.lanes.specs.Numbers.{both_hold}
use Rattle.lanes.proofs.Rows.{Done}
use Rattle.lanes.proofs.numbers.and.Given as goal

abbrev pub invariant-lanes : goal.invariant-lanes
invariant-lanes l = Done (λ k x. both_hold x (slice_index l.s k)) l.fn.d l.d l.j
