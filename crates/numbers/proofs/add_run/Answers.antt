use Rattle.std.proofs.Common.{rules, ◌≡◌, ◌+◌, ◌^◌, ◌<◌, Some, length, take, drop, arith}
use Rattle.std.proofs.lemmas.Bool.Decides.{nat_tests}
use Rattle.numbers.specs.Numbers.{most_choices, number_below, times_in}
use Rattle.numbers.proofs.Runs.{run_known, too_many}
use Rattle.numbers.proofs.add_run.Goals as goal

pub returns-then-saturating_add-gt-MOST_CHOICES-clause-malformed : goal.returns-then-saturating_add-gt-MOST_CHOICES-clause-malformed
returns-then-saturating_add-gt-MOST_CHOICES-clause-malformed c =
    let number : number_below (2 ^ 32) (take c.star_at.result c.args.text.now) ≡ Some c.in-Some-Some.number = search rules in
    let times : times_in (drop c.star_at.result c.args.text.now) ≡ Some c.in-Some-Some.times = search rules in
    let above : most_choices < length c.args.choices.now.items + c.in-Some-Some.times = grind (arith, nat_tests) in
    λ e. too_many c.args.choices.now.items c.args.text.now c.in-Some-Some.number c.in-Some-Some.times
    (run_known c.args.text.now c.star_at.result c.in-Some-Some.number c.in-Some-Some.times c.star_at.ensures.value number times) above
