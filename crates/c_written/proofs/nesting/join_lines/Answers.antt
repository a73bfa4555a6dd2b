use Rattle.std.proofs.Common.{◌∙◌, refl, sym, arith}
use Rattle.std.specs.Prelude.{true, false}
use Rattle.c_grammar.specs.Nesting.{sums_fit}
use Rattle.directives.specs.Ahead.{seen_line}
use Rattle.directives.specs.Seen.{seen_lexeme}
use Rattle.c_written.specs.Spots.{all_kinds}
use Rattle.c_written.proofs.Fitting.{lines_joined}
use Rattle.c_written.proofs.Joining.{line_long}
use Rattle.c_written.proofs.nesting.join_lines.Goals as goal

pub returns-then-follows : goal.returns-then-follows
returns-then-follows c =
    lines_joined c.tokens-tokens.result.now c.tokens-words.result.now (seen_line c.args.target.now)
    (seen_line c.args.inner.now) (seen_lexeme c.construct_end.result) true c.sums_fit.result
    c.tokens-tokens.ensures.tokens c.tokens-words.ensures.tokens
    (sym c.is_directive.ensures ∙ c.if-not-is_directive.false) (sym c.is_target.ensures ∙ c.if-not-is_target.false)
    (sym c.is_directive-else-not-is_target.ensures ∙ c.if-not-is_directive-2.false)
    (sym c.is_own.ensures ∙ c.if-not-is_own.false) c.construct_end.ensures
    (sym c.if-follows.true ∙ c.follows.ensures) c.sums_fit.ensures

pub returns-else-follows : goal.returns-else-follows
returns-else-follows c =
    c.if-follows.false
    ∙ lines_joined c.tokens-tokens.result.now c.tokens-words.result.now (seen_line c.args.target.now)
    (seen_line c.args.inner.now) (seen_lexeme c.construct_end.result) false
    (sums_fit (all_kinds c.tokens-tokens.result.now) (all_kinds c.tokens-words.result.now))
    c.tokens-tokens.ensures.tokens c.tokens-words.ensures.tokens
    (sym c.is_directive.ensures ∙ c.if-not-is_directive.false) (sym c.is_target.ensures ∙ c.if-not-is_target.false)
    (sym c.is_directive-else-not-is_target.ensures ∙ c.if-not-is_directive-2.false)
    (sym c.is_own.ensures ∙ c.if-not-is_own.false) c.construct_end.ensures
    (sym c.if-follows.false ∙ c.follows.ensures) refl

pub returns-in_default : goal.returns-in_default
returns-in_default c =
    absurd (omega (
      arith,
      c.in_default.len_below,
      line_long c.tokens-words.result.now (seen_line c.args.inner.now) c.tokens-words.ensures.tokens
          (sym c.is_directive-else-not-is_target.ensures ∙ c.if-not-is_directive-2.false),
    ))
