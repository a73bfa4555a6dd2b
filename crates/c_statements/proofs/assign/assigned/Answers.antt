use Rattle.c_statements.proofs.Stores.{read_assign, read_boxed, read_store}
use Rattle.c_statements.proofs.Assigns.{array_name, scalar_name, stop_name}
use Rattle.std.proofs.Common.{arith}
use Rattle.c_statements.proofs.assign.assigned.Goals as goal

pub returns-in-Some-Array-clause-read : goal.returns-in-Some-Array-clause-read
returns-in-Some-Array-clause-read c = grind (arith, array_name)

pub returns-in-Some-Array-clause-tree : goal.returns-in-Some-Array-clause-tree
returns-in-Some-Array-clause-tree c = grind (arith, read_store)

pub returns-in-Some-Scalar-clause-read : goal.returns-in-Some-Scalar-clause-read
returns-in-Some-Scalar-clause-read c = grind (arith, scalar_name)

pub returns-in-Some-Scalar-clause-tree : goal.returns-in-Some-Scalar-clause-tree
returns-in-Some-Scalar-clause-tree c = grind (arith, read_assign)

pub returns-in_default-clause-read : goal.returns-in_default-clause-read
returns-in_default-clause-read c = grind (arith, stop_name)

pub returns-in-Some-Boxed-clause-read : goal.returns-in-Some-Boxed-clause-read
returns-in-Some-Boxed-clause-read c = grind (arith, scalar_name)

pub returns-in-Some-Boxed-clause-tree : goal.returns-in-Some-Boxed-clause-tree
returns-in-Some-Boxed-clause-tree c = grind (arith, read_boxed)
