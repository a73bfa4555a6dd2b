use Rattle.std.proofs.Common.{Bool, true, false}
use Rattle.std.specs.Prelude.{slice_index_or}
use Rattle.kernel.specs.Lanes.{Over}
use Rattle.kernel.proofs.run_row.mark_some.Given as goal

abbrev pub invariant-lanes : goal.invariant-lanes
invariant-lanes l = Over Bool (λ k. slice_index_or l.mask k false) (λ k. true) l.at l.j l.fn.marks l.marks
