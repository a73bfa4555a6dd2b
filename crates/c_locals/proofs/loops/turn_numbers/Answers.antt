use Rattle.std.proofs.Common.{◌≡◌, ℕ, IfOk, subst}
use Rattle.c_grammar.specs.Locals.{numbers}
use Rattle.c_locals.specs.Loops.{turn_numbers}
use Rattle.c_locals.proofs.loops.turn_numbers.Goals as goal

pub returns : goal.returns
unfolding turn_numbers
returns c =
    subst (λ (x : ℕ). IfOk c.numbers.result (λ v. v.items ≡ numbers 65 x c.args.own.step.amount c.args.own.end)) c.first.ensures
    (subst (λ (x : ℕ). IfOk c.numbers.result (λ v. v.items ≡ numbers 65 c.first.result x c.args.own.end)) c.amount.ensures c.numbers.ensures)
