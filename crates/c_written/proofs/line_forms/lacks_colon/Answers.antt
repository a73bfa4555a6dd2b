use Rattle.std.proofs.Common.{◌∙◌, sym, arith}
use Rattle.std.proofs.lemmas.List.{length-reverse}
use Rattle.c_written.specs.Stack.{held}
use Rattle.c_written.proofs.Behind.{is_below}
use Rattle.c_written.proofs.LinePast.{lacks_stop, lacks_end, lacks_on, lacks_open}
use Rattle.c_written.proofs.line_forms.lacks_colon.Goals as goal

pub returns-then-is_sign : goal.returns-then-is_sign
returns-then-is_sign c =
    sym (lacks_open (held c.args.past.now) c.tokens.k c.in-Some.lexeme (sym c.in-Some.ensures) (sym c.if-is_sign.ensures)) ∙ c.tokens.invariant

pub returns-then-ends_bound : goal.returns-then-ends_bound
returns-then-ends_bound c =
    sym (lacks_stop (held c.args.past.now) c.tokens.k c.in-Some.lexeme (sym c.in-Some.ensures) (sym c.if-is_sign.ensures) (sym c.if-ends_bound.ensures)) ∙ c.tokens.invariant

pub overflow_add-k : goal.overflow_add-k
overflow_add-k c = omega (
  arith,
  is_below (held c.args.past.now) c.tokens.k c.in-Some.lexeme (sym c.in-Some.ensures),
  length-reverse c.args.past.now.items.items,
  c.args.past.now.items.ok.0,
)

pub tokens-smaller : goal.tokens-smaller
tokens-smaller c = omega (arith, is_below (held c.args.past.now) c.tokens.k c.in-Some.lexeme (sym c.in-Some.ensures))

pub tokens-preserved : goal.tokens-preserved
tokens-preserved c =
    sym (lacks_on (held c.args.past.now) c.tokens.k c.in-Some.lexeme (sym c.in-Some.ensures) (sym c.if-is_sign.ensures) (sym c.if-ends_bound.ensures)) ∙ c.tokens.invariant

pub returns : goal.returns
returns c = sym (lacks_end (held c.args.past.now) c.tokens.k (sym c.in_default.ensures)) ∙ c.tokens.invariant
