use Rattle.ranges.proofs.Walked.{after_append}
use Rattle.std.proofs.Common.{arith}
use Rattle.ranges.proofs.walk.+walk_expr.Goals as goal

pub returns-in_ok-walk_expr-in-Cell : goal.returns-in_ok-walk_expr-in-Cell
returns-in_ok-walk_expr-in-Cell t c = grind (arith, after_append)

pub returns-in_ok-walk_expr-in-Binary : goal.returns-in_ok-walk_expr-in-Binary
returns-in_ok-walk_expr-in-Binary t c = grind (arith, after_append)
