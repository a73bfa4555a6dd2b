use Rattle.std.proofs.Common.{ap, ◌∙◌}
use Rattle.base.specs.declared.item.Cell.{Cell}
use Rattle.bits.specs.Sets.{has as has_number}
use Rattle.ranges.specs.Cells.{row_at}
use Rattle.ranges.proofs.Sets.{rows_more}
use Rattle.ranges.proofs.cells.CellSet.reach.Goals as goal

pub loop-array-init : goal.loop-array-init
loop-array-init c = c.reserve.ensures

pub loop-array-preserved : goal.loop-array-preserved
loop-array-preserved c =
    rows_more c.loop-array.self.none c.loop-array.self.empty c.loop-array.self.rows.items c.push.new.self.items c.new.result
    c.in_ok-push.ensures.items c.new.ensures
    ∙ c.loop-array.invariant

pub returns-in_err-push-clause-same : goal.returns-in_err-push-clause-same
returns-in_err-push-clause-same c =
    ap (λ xs (d : Cell). has_number (row_at c.loop-array.self.none xs d.array.0) d.index) c.in_err-push.ensures.items
    ∙ c.loop-array.invariant
