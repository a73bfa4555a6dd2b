use Rattle.std.proofs.Common.{◌∙◌, ap, sym, length, arith}
use Rattle.std.proofs.lemmas.List.{length-map}
use Rattle.directives.specs.Seen.{is_whole, seen_placed}
use Rattle.directives.specs.Ahead.{seen_line}
use Rattle.c_terminals.specs.Names.{seen_names}
use Rattle.c_written.specs.Forms.{all_placed}
use Rattle.c_written.proofs.KeptLines.{front_three, owned_whole, short_line}
use Rattle.c_written.proofs.Outcomes.{same_if_ok}
use Rattle.c_written.proofs.privates.owned_line.Goals as goal

pub of-requires : goal.of-requires
of-requires c =
    let ts = c.tokens.result.now in
    ap is_whole (c.in_ok-tokens-in-len3-up.ensures
    ∙ front_three (seen_names c.args.names.now) ts _ _ _ c.in-len3-up.len_at_least)
    ∙ owned_whole (seen_names c.args.names.now) (all_placed ts) c.tokens.ensures.whole

pub returns-in_default : goal.returns-in_default
returns-in_default c =
    same_if_ok c.copy.result seen_line (seen_line c.args.line.now) _ c.copy.ensures
    (sym (short_line (seen_names c.args.names.now) (seen_line c.args.line.now)
    (omega (arith, ap (λ ps. length ps) c.tokens.ensures.tokens, length-map c.tokens.result.now seen_placed, c.in_default.len_below))))
