use Rattle.directives.proofs.Heading.{at_distribute_simd, at_distribute_parallel, no_more_distribute}
use Rattle.std.proofs.Common.{arith}
use Rattle.directives.proofs.line.Line.distribute_kind.Goals as goal

pub returns-in_err-enter-clause-read : goal.returns-in_err-enter-clause-read
returns-in_err-enter-clause-read c = grind (arith, at_distribute_simd)

pub returns-then-at_word-clause-read : goal.returns-then-at_word-clause-read
returns-then-at_word-clause-read c = grind (arith, at_distribute_simd)

pub returns-in_err-enter-2-clause-read : goal.returns-in_err-enter-2-clause-read
returns-in_err-enter-2-clause-read c = grind (arith, at_distribute_parallel)

pub returns-in_err-expect_for-clause-read : goal.returns-in_err-expect_for-clause-read
returns-in_err-expect_for-clause-read c = grind (arith, at_distribute_parallel)

pub returns-in_err-simd-clause-read : goal.returns-in_err-simd-clause-read
returns-in_err-simd-clause-read c = grind (arith, at_distribute_parallel)

pub returns-then-simd-clause-read : goal.returns-then-simd-clause-read
returns-then-simd-clause-read c = grind (arith, at_distribute_parallel)

pub returns-else-simd-clause-read : goal.returns-else-simd-clause-read
returns-else-simd-clause-read c = grind (arith, at_distribute_parallel)

pub returns-clause-read : goal.returns-clause-read
returns-clause-read c = grind (arith, no_more_distribute)
