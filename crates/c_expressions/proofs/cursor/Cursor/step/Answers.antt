use Rattle.std.proofs.Common.{◌+◌, ◌≤◌, ◌^◌, arith}
use Rattle.c_expressions.proofs.Numbers.{zero_step, large_step, go_step}
use Rattle.c_expressions.proofs.cursor.Cursor.step.Goals as goal

pub returns-clause-read : goal.returns-clause-read
returns-clause-read c = λ d s.
    let low : 1 ≤ c.in_ok-step.step = omega arith in
    let high : c.args.limit + c.in_ok-step.step ≤ 2 ^ 64 = omega arith in
    go_step c.args.limit d s c.in_ok-step.step c.args.self.now c.take.new.self c.in_ok-step.ensures.number low high
    c.take.ensures

pub returns-then-step-eq0-clause-read : goal.returns-then-step-eq0-clause-read
returns-then-step-eq0-clause-read c = grind (arith, zero_step)

pub returns-then-limit-step-clause-read : goal.returns-then-limit-step-clause-read
returns-then-limit-step-clause-read c = grind (arith, large_step)
