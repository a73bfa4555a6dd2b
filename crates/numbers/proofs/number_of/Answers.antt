use Rattle.std.proofs.Common.{◌∙◌, ◌^◌, sym, arith}
use Rattle.numbers.proofs.Digits.{number_step, number_start, number_large, number_empty, number_end}
use Rattle.std.proofs.lemmas.Grind.{common_steps}
use Rattle.numbers.proofs.number_of.Goals as goal

pub returns : goal.returns
returns c = sym (number_end (2 ^ 64) c.loop-d.value c.args.digits.now c.loop-d.d-index (omega arith) (omega arith)) ∙ c.loop-d.invariant.left

pub returns-then-is_empty : goal.returns-then-is_empty
returns-then-is_empty c = grind (arith, number_empty)

pub loop-d-init : goal.loop-d-init
loop-d-init c = grind (arith, number_start)

pub returns-then-not-is_digit : goal.returns-then-not-is_digit
returns-then-not-is_digit c = grind (arith, common_steps)

pub returns-in_err-checked_mul : goal.returns-in_err-checked_mul
returns-in_err-checked_mul c = grind (arith, number_large)

pub returns-in_err-value : goal.returns-in_err-value
returns-in_err-value c = grind (arith, number_large)

pub loop-d-preserved : goal.loop-d-preserved
loop-d-preserved c = grind (arith, number_step)
