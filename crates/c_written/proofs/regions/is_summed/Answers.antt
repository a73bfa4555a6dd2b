use Rattle.std.proofs.Common.{◌∙◌, arith, sym}
use Rattle.c_written.proofs.Summing.{few_behind, name_stays, name_stops, token_stays}
use Rattle.c_written.proofs.regions.is_summed.Goals as goal

pub returns-in_default-mentioned : goal.returns-in_default-mentioned
returns-in_default-mentioned c =
    name_stops c.args.name.now c.args.op c.tokens.place.depth c.tokens.place.starts c.tokens.left c.tokens.rest.now
    c.token-item.result c.in-len1-up.len_at_least c.token-item.is (sym c.is_directive.ensures ∙ c.if-is_directive.false)
    (sym c.is_named.ensures ∙ c.if-is_named.true) c.in_default-mentioned.ensures
    ∙ c.tokens.invariant.same

pub tokens-preserved-then-is_named : goal.tokens-preserved-then-is_named
tokens-preserved-then-is_named c =
    let few = few_behind c.tokens.rest.now c.in-len1-up.len_at_least in
    record {
      same =
          name_stays c.args.name.now c.args.op c.tokens.place.depth c.tokens.place.starts c.tokens.left c.tokens.rest.now
          c.token-item.result c.in-Some.again c.in-len1-up.len_at_least c.token-item.is
          (sym c.is_directive.ensures ∙ c.if-is_directive.false) (sym c.is_named.ensures ∙ c.if-is_named.true)
          c.in-Some.ensures
          ∙ c.tokens.invariant.same;
      few = omega (arith, few, c.tokens.invariant.few);
    }

pub tokens-preserved : goal.tokens-preserved
tokens-preserved c =
    let few = few_behind c.tokens.rest.now c.in-len1-up.len_at_least in
    record {
      same =
          token_stays c.args.name.now c.args.op c.tokens.place.depth c.tokens.place.starts c.tokens.left
          c.saturating_sub-left.result c.in-Some-behind.next.depth c.in-Some-behind.next.starts c.tokens.rest.now
          c.token-item.result c.in-len1-up.len_at_least c.token-item.is
          (sym c.is_directive.ensures ∙ c.if-is_directive.false) (sym c.is_named.ensures ∙ c.if-is_named.false)
          c.saturating_sub-left.ensures c.in-Some-behind.ensures.place
          ∙ c.tokens.invariant.same;
      few = omega (arith, few, c.tokens.invariant.few, c.in-Some-behind.ensures.few);
    }
