use Rattle.present.specs.Rows.{Takes, marked_at}
use Rattle.present.proofs.RowParts.{below}
use Rattle.present.proofs.rows.store_marked.Given as goal

abbrev pub invariant-indices : goal.invariant-indices
invariant-indices l = Takes (below l.index (marked_at l.first l.numbers l.marks)) l.start l.fn.values l.values
