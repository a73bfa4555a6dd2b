use Rattle.std.proofs.Common.{ℕ}
use Rattle.std.specs.Prelude.{slice_index}
use Rattle.kernel.specs.Lanes.{Over, all_of}
use Rattle.kernel.proofs.run_row.put_numbers.Given as goal

abbrev pub invariant-lanes : goal.invariant-lanes
invariant-lanes l = Over ℕ all_of (slice_index l.numbers) l.at l.j l.fn.cells l.cells
