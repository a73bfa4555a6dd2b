use Rattle.directives.proofs.Heading.{at_with_simd, at_without_simd}
use Rattle.std.proofs.Common.{arith}
use Rattle.directives.proofs.line.Line.simd_word.Goals as goal

pub returns-in_err-enter-clause-read : goal.returns-in_err-enter-clause-read
returns-in_err-enter-clause-read c = grind (arith, at_with_simd)

pub returns-then-at_word-clause-read : goal.returns-then-at_word-clause-read
returns-then-at_word-clause-read c = grind (arith, at_with_simd)

pub returns-clause-read : goal.returns-clause-read
returns-clause-read c = grind (arith, at_without_simd)
