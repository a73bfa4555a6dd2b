use Rattle.c_read.proofs.Declared.{stop_global, read_scalar, read_array}
use Rattle.std.proofs.Common.{arith}
use Rattle.c_read.proofs.globals.global.Goals as goal

pub returns-then-at-clause-tree : goal.returns-then-at-clause-tree
returns-then-at-clause-tree c = grind (arith, read_array)

pub returns-then-at-2-clause-tree : goal.returns-then-at-2-clause-tree
returns-then-at-2-clause-tree c = grind (arith, read_scalar)

pub returns-clause-read : goal.returns-clause-read
returns-clause-read c = grind (arith, stop_global)
