use Rattle.std.proofs.Common.{sym, ◌∙◌}
use Rattle.mapwalk.proofs.Unmapped.{mapped_on}
use Rattle.mapwalk.proofs.causes.mapped_end.Goals as goal

pub returns-then-has_cell-clause-some : goal.returns-then-has_cell-clause-some
returns-then-has_cell-clause-some c =
    mapped_on c.args.maps.now c.maps.item-index _ c.args.cell c.end.result c.maps-test.true c.end.ensures
    (sym c.has_cell.ensures ∙ c.if-has_cell.true)
