use Rattle.c_statements.proofs.Stores.{read_store_rest}
use Rattle.std.proofs.Common.{arith}
use Rattle.c_statements.proofs.assign.element.Goals as goal

pub returns-clause-tree : goal.returns-clause-tree
returns-clause-tree c = grind (arith, read_store_rest)
