use Rattle.directives.proofs.Heading.{at_update, at_exit, at_enter, at_data}
use Rattle.std.proofs.Common.{arith}
use Rattle.directives.proofs.line.Line.target_kind.Goals as goal

pub returns-in_err-enter-clause-read : goal.returns-in_err-enter-clause-read
returns-in_err-enter-clause-read c = grind (arith, at_data)

pub returns-then-at_word-clause-read : goal.returns-then-at_word-clause-read
returns-then-at_word-clause-read c = grind (arith, at_data)

pub returns-in_err-enter-2-clause-read : goal.returns-in_err-enter-2-clause-read
returns-in_err-enter-2-clause-read c = grind (arith, at_update)

pub returns-then-at_word-2-clause-read : goal.returns-then-at_word-2-clause-read
returns-then-at_word-2-clause-read c = grind (arith, at_update)

pub returns-in_err-enter-3-clause-read : goal.returns-in_err-enter-3-clause-read
returns-in_err-enter-3-clause-read c = grind (arith, at_enter)

pub returns-in_err-expect_word-clause-read : goal.returns-in_err-expect_word-clause-read
returns-in_err-expect_word-clause-read c = grind (arith, at_enter)

pub returns-then-at_word-3-clause-read : goal.returns-then-at_word-3-clause-read
returns-then-at_word-3-clause-read c = grind (arith, at_enter)

pub returns-in_err-enter-4-clause-read : goal.returns-in_err-enter-4-clause-read
returns-in_err-enter-4-clause-read c = grind (arith, at_exit)

pub returns-in_err-expect_word-2-clause-read : goal.returns-in_err-expect_word-2-clause-read
returns-in_err-expect_word-2-clause-read c = grind (arith, at_exit)

pub returns-then-at_word-4-clause-read : goal.returns-then-at_word-4-clause-read
returns-then-at_word-4-clause-read c = grind (arith, at_exit)
