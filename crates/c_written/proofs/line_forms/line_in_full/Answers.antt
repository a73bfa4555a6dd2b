use Rattle.std.proofs.Common.{◌∙◌, ap, sym, length, arith}
use Rattle.std.proofs.lemmas.List.{length-map}
use Rattle.directives.specs.Seen.{is_whole, seen_placed}
use Rattle.directives.specs.Ahead.{seen_line}
use Rattle.c_written.specs.Values.{seen_values}
use Rattle.c_written.proofs.Outcomes.{same_if_ok}
use Rattle.c_written.proofs.WholeLines.{whole_line, short_line, front_two}
use Rattle.c_written.proofs.line_forms.line_in_full.Goals as goal

pub of-requires : goal.of-requires
of-requires c =
    ap is_whole (c.in_ok-tokens-in-len2-up.ensures
    ∙ front_two (seen_values c.args.values.now) (seen_values c.args.lengths.now) c.tokens.result.now _ _ c.in-len2-up.len_at_least)
    ∙ whole_line _ _ _ c.tokens.ensures.whole

pub returns-in_default : goal.returns-in_default
returns-in_default c =
    same_if_ok c.copy.result seen_line (seen_line c.args.line.now) _ c.copy.ensures
    (sym (short_line (seen_values c.args.values.now) (seen_values c.args.lengths.now) (seen_line c.args.line.now)
    (omega (arith, ap (λ ps. length ps) c.tokens.ensures.tokens, length-map c.tokens.result.now seen_placed, c.in_default.len_below))))
