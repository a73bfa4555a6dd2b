use Rattle.c_statements.proofs.Prints.{read_print_rest}
use Rattle.std.proofs.Common.{arith}
use Rattle.c_statements.proofs.print.print_value.Goals as goal

pub returns-clause-tree : goal.returns-clause-tree
returns-clause-tree c = grind (arith, read_print_rest)
