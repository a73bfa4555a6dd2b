use Rattle.std.proofs.Common.{◌<◌, ◌^◌, length, rules, arith}
use Rattle.c_tokens.specs.declared.kind.Sign.TheVariants as sign
use Rattle.c_grammar.specs.Constants.{is_mark}
use Rattle.c_written.proofs.Enumerating.{few_behind}
use Rattle.c_written.proofs.definitions.Definitions.definition_len.Goals as goal

pub enumerators_len-requires : goal.enumerators_len-requires
enumerators_len-requires c =
    let small : length c.args.rest.now < 2 ^ 63 = search rules in
    let few = few_behind c.args.rest.now (2 ^ 63) c.next.result _ _ c.is_sign.result (is_mark sign.OpenBrace) small c.new-ahead.ensures
    c.next.ensures c.is_sign.ensures c.if-is_sign.true in
    omega (arith, few)
