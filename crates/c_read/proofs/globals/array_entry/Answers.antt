use Rattle.c_read.proofs.Declared.{array_added}
use Rattle.std.proofs.Common.{arith}
use Rattle.c_read.proofs.globals.array_entry.Goals as goal

pub returns-clause-tree : goal.returns-clause-tree
returns-clause-tree c = grind (arith, array_added)
