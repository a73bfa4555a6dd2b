use Rattle.std.proofs.Common.{◌≡◌, ◌∙◌, true, List, ◌∷◌, sym, ap}
use Rattle.c_grammar.specs.Lexeme.{Placed}
use Rattle.directives.specs.declared.lexeme.PlacedLexeme.{PlacedLexeme}
use Rattle.directives.specs.Seen.{is_whole, seen_placed}
use Rattle.c_written.specs.Forms.{all_placed}
use Rattle.c_written.specs.Ifs.{seen_heading}
use Rattle.c_written.proofs.Deciding.{words_whole}
use Rattle.c_written.proofs.decided.outcome.Goals as goal

pub of-requires : goal.of-requires
of-requires c =
    let p : Placed = seen_placed c.args.first in
    let o : Placed = seen_placed c.args.second in
    let whole : is_whole (p ∷ o ∷ all_placed c.args.rest.now) ≡ true =
    ap is_whole (sym (c.tokens-tokens.ensures.tokens ∙ c.requires)) ∙ c.tokens-tokens.ensures.whole in
    ap is_whole (c.in_ok-with_words.ensures
    ∙ ap (λ (xs : List PlacedLexeme). p ∷ o ∷ all_placed xs) c.deref-then-not-is_off.ensures.value
    ∙ ap (λ (qs : List Placed). p ∷ o ∷ qs) c.in_ok-kept.ensures)
    ∙ words_whole (seen_heading c.heading-heading.result) p o (all_placed c.args.rest.now) whole
