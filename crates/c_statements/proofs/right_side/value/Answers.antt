use Rattle.c_statements.proofs.Sources.{not_read, value_ends, read_value, value_stops}
use Rattle.std.proofs.Common.{arith}
use Rattle.c_statements.proofs.right_side.value.Goals as goal

pub returns-in_err-value-clause-read : goal.returns-in_err-value-clause-read
returns-in_err-value-clause-read c = grind (arith, not_read)

pub returns-then-at-clause-read : goal.returns-then-at-clause-read
returns-then-at-clause-read c = grind (arith, not_read, value_ends)

pub returns-then-at-clause-tree : goal.returns-then-at-clause-tree
returns-then-at-clause-tree c = grind (arith, read_value)

pub returns-clause-read : goal.returns-clause-read
returns-clause-read c = grind (arith, not_read, value_stops)
