use Rattle.std.proofs.Common.{◌∙◌, sym, arith}
use Rattle.std.proofs.lemmas.List.{length-reverse}
use Rattle.c_written.specs.Stack.{held}
use Rattle.c_written.proofs.Behind.{is_below}
use Rattle.c_written.proofs.LinePast.{inside_close, inside_end, inside_on, inside_open}
use Rattle.c_written.proofs.line_forms.is_inside.Goals as goal

pub returns-then-is_sign : goal.returns-then-is_sign
returns-then-is_sign c =
    sym (inside_open (held c.args.past.now) c.tokens.k c.in-Some.lexeme (sym c.in-Some.ensures) (sym c.if-is_sign.ensures)) ∙ c.tokens.invariant

pub returns-then-is_sign-2 : goal.returns-then-is_sign-2
returns-then-is_sign-2 c =
    sym (inside_close (held c.args.past.now) c.tokens.k c.in-Some.lexeme (sym c.in-Some.ensures) (sym c.if-is_sign.ensures) (sym c.if-is_sign-2.ensures)) ∙ c.tokens.invariant

pub overflow_add-k : goal.overflow_add-k
overflow_add-k c = omega (
  arith,
  is_below (held c.args.past.now) c.tokens.k c.in-Some.lexeme (sym c.in-Some.ensures),
  length-reverse c.args.past.now.items.items,
  c.args.past.now.items.ok.0,
)

pub tokens-smaller : goal.tokens-smaller
tokens-smaller c = omega (arith, is_below (held c.args.past.now) c.tokens.k c.in-Some.lexeme (sym c.in-Some.ensures))

pub tokens-preserved : goal.tokens-preserved
tokens-preserved c =
    sym (inside_on (held c.args.past.now) c.tokens.k c.in-Some.lexeme (sym c.in-Some.ensures) (sym c.if-is_sign.ensures) (sym c.if-is_sign-2.ensures)) ∙ c.tokens.invariant

pub returns : goal.returns
returns c = sym (inside_end (held c.args.past.now) c.tokens.k (sym c.in_default.ensures)) ∙ c.tokens.invariant
