use Rattle.directives.proofs.Heading.{no_other, at_simd, at_parallel, at_teams, no_more}
use Rattle.std.proofs.Common.{arith}
use Rattle.directives.proofs.line.Line.construct.Goals as goal

pub returns-in_err-enter-clause-read : goal.returns-in_err-enter-clause-read
returns-in_err-enter-clause-read c = grind (arith, no_other, at_simd)

pub returns-then-at_word-clause-read : goal.returns-then-at_word-clause-read
returns-then-at_word-clause-read c = grind (arith, no_other, at_simd)

pub returns-in_err-enter-2-clause-read : goal.returns-in_err-enter-2-clause-read
returns-in_err-enter-2-clause-read c = grind (arith, no_other, at_parallel)

pub returns-in_err-construct-clause-read : goal.returns-in_err-construct-clause-read
returns-in_err-construct-clause-read c = grind (arith, no_other, at_parallel)

pub returns-then-at_word-2-clause-read : goal.returns-then-at_word-2-clause-read
returns-then-at_word-2-clause-read c = grind (arith, no_other, at_parallel)

pub returns-in_err-enter-3-clause-read : goal.returns-in_err-enter-3-clause-read
returns-in_err-enter-3-clause-read c = grind (arith, no_other, at_teams)

pub returns-in_err-construct-2-clause-read : goal.returns-in_err-construct-2-clause-read
returns-in_err-construct-2-clause-read c = grind (arith, no_other, at_teams)

pub returns-then-at_word-3-clause-read : goal.returns-then-at_word-3-clause-read
returns-then-at_word-3-clause-read c = grind (arith, no_other, at_teams)

pub returns-clause-read : goal.returns-clause-read
returns-clause-read c = grind (arith, no_other, no_more)
