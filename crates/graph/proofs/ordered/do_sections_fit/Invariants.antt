use Rattle.graph.proofs.Fitting.{FitBelow}
use Rattle.graph.proofs.ordered.do_sections_fit.Given as goal

abbrev pub invariant-items : goal.invariant-items
invariant-items l = FitBelow l.outlined l.item-items l.item-index
