use Rattle.kernel.proofs.Gathers.{Gathered}
use Rattle.kernel.proofs.values.gather_together.Given as goal

abbrev pub invariant-lanes : goal.invariant-lanes
invariant-lanes l = Gathered l.first l.cells l.fn.out l.out l.j
