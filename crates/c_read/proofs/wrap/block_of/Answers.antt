use Rattle.c_read.proofs.Wraps.{block_statement, block_part}
use Rattle.std.proofs.Common.{arith}
use Rattle.c_read.proofs.wrap.block_of.Goals as goal

pub returns-then-is_empty-clause-means : goal.returns-then-is_empty-clause-means
returns-then-is_empty-clause-means c = grind (arith, block_statement)

pub returns-clause-means : goal.returns-clause-means
returns-clause-means c = grind (arith, block_part)
