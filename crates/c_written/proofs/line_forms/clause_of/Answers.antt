use Rattle.std.proofs.Common.{◌∙◌, sym, arith}
use Rattle.c_written.specs.Stack.{held}
use Rattle.c_written.proofs.Behind.{is_below}
use Rattle.c_written.proofs.LinePast.{clause_open, clause_on, clause_end}
use Rattle.c_written.proofs.line_forms.clause_of.Goals as goal

pub returns-then-is_sign : goal.returns-then-is_sign
returns-then-is_sign c =
    c.word_at.ensures ∙ sym (clause_open (held c.args.past.now) c.tokens.k c.in-Some.lexeme (sym c.in-Some.ensures) (sym c.if-is_sign.ensures)) ∙ c.tokens.invariant

pub tokens-smaller : goal.tokens-smaller
tokens-smaller c = omega (arith, is_below (held c.args.past.now) c.tokens.k c.in-Some.lexeme (sym c.in-Some.ensures))

pub tokens-preserved : goal.tokens-preserved
tokens-preserved c = sym (clause_on (held c.args.past.now) c.tokens.k c.in-Some.lexeme (sym c.in-Some.ensures) (sym c.if-is_sign.ensures)) ∙ c.tokens.invariant

pub returns : goal.returns
returns c = sym (clause_end (held c.args.past.now) c.tokens.k (sym c.in_default.ensures)) ∙ c.tokens.invariant
