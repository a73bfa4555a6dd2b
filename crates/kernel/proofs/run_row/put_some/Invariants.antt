use Rattle.std.proofs.Common.{ℕ, false}
use Rattle.std.specs.Prelude.{slice_index, slice_index_or}
use Rattle.kernel.specs.Lanes.{Over}
use Rattle.kernel.proofs.run_row.put_some.Given as goal

abbrev pub invariant-lanes : goal.invariant-lanes
invariant-lanes l = Over ℕ (λ k. slice_index_or l.mask k false) (slice_index l.numbers) l.at l.j l.fn.cells l.cells
