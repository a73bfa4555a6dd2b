use Rattle.std.proofs.Common.{Bool, true}
use Rattle.kernel.specs.Lanes.{Over, all_of}
use Rattle.kernel.proofs.run_row.mark_run.Given as goal

abbrev pub invariant-lanes : goal.invariant-lanes
invariant-lanes l = Over Bool all_of (λ k. true) l.at l.j l.fn.marks l.marks
