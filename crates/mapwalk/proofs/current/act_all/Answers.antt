use Rattle.std.proofs.Common.{sym, ◌∙◌, arith}
use Rattle.mapwalk.specs.Sides.{shown_by}
use Rattle.mapwalk.proofs.RowLists.{acts_end}
use Rattle.mapwalk.proofs.current.act_all.Goals as goal

pub returns-clause-shown : goal.returns-clause-shown
returns-clause-shown c =
    sym (acts_end c.args.maps.now c.args.row.now c.maps.i (shown_by c.maps.host c.maps.device) (omega arith)) ∙ c.maps.invariant.shown
