use Rattle.kernel.proofs.Gathers.{Gathered}
use Rattle.kernel.proofs.values.gather_apart.Given as goal

abbrev pub invariant-lanes : goal.invariant-lanes
invariant-lanes l = Gathered l.row.0 l.row.1 l.fn.out l.out l.j
