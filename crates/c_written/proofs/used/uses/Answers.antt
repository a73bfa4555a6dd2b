use Rattle.std.proofs.Common.{◌<◌, ◌^◌, length, ap, rules, arith}
use Rattle.std.proofs.lemmas.List.{length-map}
use Rattle.c_grammar.specs.Blocks.{Items}
use Rattle.c_terminals.specs.Seen.{seen, seen_all}
use Rattle.c_written.proofs.Targeting.{few_bare}
use Rattle.c_written.proofs.used.uses.Goals as goal

pub overflow_add-depth : goal.overflow_add-depth
overflow_add-depth c =
    let small : length c.args.tokens.now < 2 ^ 63 = search rules in
    let few = few_bare (seen_all c.args.tokens.now) in
    let more = ap (λ (is : Items). length is) c.in-Some.ensures in
    omega (arith, small, few, more, length-map c.args.tokens.now seen, c.tokens.invariant.few)
