use Rattle.std.proofs.Common.{◌<◌, ◌^◌, length, ap, rules, arith}
use Rattle.std.proofs.lemmas.List.{length-map}
use Rattle.c_grammar.specs.Blocks.{Items}
use Rattle.c_terminals.specs.Seen.{seen, seen_all}
use Rattle.c_written.proofs.Targeting.{few_bare}
use Rattle.c_written.proofs.calls.Scope.statement_at.Goals as goal

pub expansion-requires : goal.expansion-requires
expansion-requires c =
    let small : length c.args.tokens.now < 2 ^ 63 = search rules in
    let few = few_bare (seen_all c.args.tokens.now) in
    let same = ap (λ (is : Items). length is) c.new.ensures in
    omega (arith, few, same, small, length-map c.args.tokens.now seen)
