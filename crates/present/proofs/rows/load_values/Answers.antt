use Rattle.std.proofs.Common.{sym, subst, arith}
use Rattle.base.specs.Rows.{at_index}
use Rattle.present.specs.Rows.{Takes}
use Rattle.present.proofs.RowParts.{taken_none, taken_part}
use Rattle.present.proofs.rows.load_values.Goals as goal

pub returns-then-begin-end : goal.returns-then-begin-end
returns-then-begin-end c =
    subst (Takes (at_index c.args.start c.args.values.now) c.args.first c.args.numbers.now) (sym c.overwrite.ensures)
    (taken_part c.args.values.now c.args.numbers.now c.args.start c.args.first c.max-begin.result c.min-end.result
    (omega arith) (omega arith) (omega arith) (omega arith) (omega arith) (omega arith) (omega arith))

pub returns-else-begin-end : goal.returns-else-begin-end
returns-else-begin-end c =
    taken_none c.args.values.now c.args.numbers.now c.args.start c.args.first c.max-begin.result c.min-end.result
    (omega arith) (omega arith) (omega arith) (omega arith) (omega arith) (omega arith) (omega arith)
