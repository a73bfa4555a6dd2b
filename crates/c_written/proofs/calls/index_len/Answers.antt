use Rattle.std.proofs.Common.{◌∙◌, length, ap, sym, arith}
use Rattle.c_grammar.specs.Blocks.{Items}
use Rattle.c_terminals.specs.Ahead.{ahead}
use Rattle.c_terminals.specs.Seen.{seen}
use Rattle.c_written.proofs.CallSteps.{index_bounded, index_closed, index_end, index_more, index_opened, index_over}
use Rattle.c_written.proofs.calls.index_len.Goals as goal

pub returns-then-is_boundary : goal.returns-then-is_boundary
returns-then-is_boundary c =
    sym (index_bounded c.tokens.depth c.tokens.len (ahead c.tokens.ahead) (ahead c.next.new.self) (seen c.in-Some.token) c.in-Some.ensures
    (sym c.is_boundary.ensures ∙ c.if-is_boundary.true))
    ∙ c.tokens.invariant.same

pub tokens-preserved-then-is_sign : goal.tokens-preserved-then-is_sign
tokens-preserved-then-is_sign c =
    let few = ap (λ (is : Items). length is) c.in-Some.ensures in
    record {
      same =
          sym (index_opened c.tokens.depth c.tokens.len (ahead c.tokens.ahead) (ahead c.next.new.self) (seen c.in-Some.token) c.in-Some.ensures
          (sym c.is_boundary.ensures ∙ c.if-is_boundary.false) (sym c.is_sign.ensures ∙ c.if-is_sign.true))
          ∙ c.tokens.invariant.same;
      few = omega (arith, few, c.tokens.invariant.few);
      deep = omega (arith, c.tokens.invariant.deep);
    }

pub returns-then-depth-le1 : goal.returns-then-depth-le1
returns-then-depth-le1 c =
    sym (index_over c.tokens.depth c.tokens.len (ahead c.tokens.ahead) (ahead c.next.new.self) (seen c.in-Some.token) c.in-Some.ensures
    (sym c.is_boundary.ensures ∙ c.if-is_boundary.false) (sym c.is_sign.ensures ∙ c.if-is_sign.false)
    (sym c.is_sign-else-is_sign.ensures ∙ c.if-is_sign-2.true) c.if-depth-le1.true)
    ∙ c.tokens.invariant.same

pub tokens-preserved-then-is_sign-2 : goal.tokens-preserved-then-is_sign-2
tokens-preserved-then-is_sign-2 c =
    let few = ap (λ (is : Items). length is) c.in-Some.ensures in
    record {
      same =
          sym (index_closed c.tokens.depth c.tokens.len (ahead c.tokens.ahead) (ahead c.next.new.self) (seen c.in-Some.token) c.in-Some.ensures
          (sym c.is_boundary.ensures ∙ c.if-is_boundary.false) (sym c.is_sign.ensures ∙ c.if-is_sign.false)
          (sym c.is_sign-else-is_sign.ensures ∙ c.if-is_sign-2.true) (omega (arith, c.if-depth-le1.false)))
          ∙ c.tokens.invariant.same;
      few = omega (arith, few, c.tokens.invariant.few);
      deep = omega (arith, c.tokens.invariant.deep);
    }

pub tokens-preserved : goal.tokens-preserved
tokens-preserved c =
    let few = ap (λ (is : Items). length is) c.in-Some.ensures in
    record {
      same =
          sym (index_more c.tokens.depth c.tokens.len (ahead c.tokens.ahead) (ahead c.next.new.self) (seen c.in-Some.token) c.in-Some.ensures
          (sym c.is_boundary.ensures ∙ c.if-is_boundary.false) (sym c.is_sign.ensures ∙ c.if-is_sign.false)
          (sym c.is_sign-else-is_sign.ensures ∙ c.if-is_sign-2.false))
          ∙ c.tokens.invariant.same;
      few = omega (arith, few, c.tokens.invariant.few);
      deep = omega (arith, c.tokens.invariant.deep);
    }

pub returns : goal.returns
returns c = sym (index_end c.tokens.depth c.tokens.len (ahead c.tokens.ahead) c.in_default.ensures) ∙ c.tokens.invariant.same
