use Rattle.std.proofs.Common.{rules, ◌≡◌, ◌^◌, ◌≤◌, Some, sym, arith}
use Rattle.std.proofs.lemmas.Bool.Decides.{nat_tests}
use Rattle.numbers.specs.Numbers.{number_below}
use Rattle.numbers.proofs.Words.{not_smaller}
use Rattle.numbers.proofs.small_number.Goals as goal

pub returns-then-number-from : goal.returns-then-number-from
returns-then-number-from c =
    let read : number_below (2 ^ 64) c.args.word.now ≡ Some c.in_ok-number.number = search rules in
    let large : 2 ^ 32 ≤ c.in_ok-number.number = grind (arith, nat_tests) in
    sym (not_smaller c.args.word.now c.in_ok-number.number read large)
