use Rattle.base.specs.Value.{binary}
use Rattle.lanes.proofs.Folds.{Halfway}
use Rattle.lanes.proofs.numbers.fold_by.Given as goal

abbrev pub invariant-lanes : goal.invariant-lanes
invariant-lanes l = Halfway (binary l.op) l.s l.first l.j l.number
