use Rattle.c_read.proofs.Unders.{block_under, nest_under, stop_nest}
use Rattle.std.proofs.Common.{arith}
use Rattle.c_read.proofs.region.region.Goals as goal

pub returns-then-at_block-clause-read : goal.returns-then-at_block-clause-read
returns-then-at_block-clause-read c = grind (arith, block_under)

pub returns-in_err-turns-clause-read : goal.returns-in_err-turns-clause-read
returns-in_err-turns-clause-read c = grind (arith, nest_under)

pub returns-then-at_word-clause-read : goal.returns-then-at_word-clause-read
returns-then-at_word-clause-read c = grind (arith, nest_under)

pub returns-clause-read : goal.returns-clause-read
returns-clause-read c = grind (arith, stop_nest)
