use Rattle.c_statements.proofs.Prints.{read_print}
use Rattle.std.proofs.Common.{arith}
use Rattle.c_statements.proofs.print.printed.Goals as goal

pub returns-clause-tree : goal.returns-clause-tree
returns-clause-tree c = grind (arith, read_print)
