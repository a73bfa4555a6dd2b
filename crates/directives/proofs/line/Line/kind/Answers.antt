use Rattle.directives.proofs.Heading.{stop_begin, at_wait, at_atomic, at_target}
use Rattle.std.proofs.Common.{arith}
use Rattle.directives.proofs.line.Line.kind.Goals as goal

pub returns-in_err-enter-clause-read : goal.returns-in_err-enter-clause-read
returns-in_err-enter-clause-read c = grind (arith, at_target)

pub returns-in_err-kind-clause-read : goal.returns-in_err-kind-clause-read
returns-in_err-kind-clause-read c = grind (arith, at_target)

pub returns-then-at_word-clause-read : goal.returns-then-at_word-clause-read
returns-then-at_word-clause-read c = grind (arith, at_target)

pub returns-in_err-enter-2-clause-read : goal.returns-in_err-enter-2-clause-read
returns-in_err-enter-2-clause-read c = grind (arith, at_wait)

pub returns-then-at_word-2-clause-read : goal.returns-then-at_word-2-clause-read
returns-then-at_word-2-clause-read c = grind (arith, at_wait)

pub returns-in_err-enter-3-clause-read : goal.returns-in_err-enter-3-clause-read
returns-in_err-enter-3-clause-read c = grind (arith, at_atomic)

pub returns-in_err-expect_update-clause-read : goal.returns-in_err-expect_update-clause-read
returns-in_err-expect_update-clause-read c = grind (arith, at_atomic)

pub returns-then-at_word-3-clause-read : goal.returns-then-at_word-3-clause-read
returns-then-at_word-3-clause-read c = grind (arith, at_atomic)

pub returns-clause-read : goal.returns-clause-read
returns-clause-read c = grind (arith, stop_begin)
