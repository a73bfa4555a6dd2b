use Rattle.std.proofs.Common.{◌∙◌, List, ◌++◌, ap}
use Rattle.c_grammar.specs.Presence.{before_end, no_clause}
use Rattle.directives.specs.declared.lexeme.PlacedLexeme.{PlacedLexeme}
use Rattle.directives.specs.Seen.{is_whole}
use Rattle.c_written.specs.Forms.{all_placed}
use Rattle.c_written.proofs.KeptLines.{noted_whole}
use Rattle.c_written.proofs.lacks.noted_line.Goals as goal

pub of-requires : goal.of-requires
of-requires c =
    let new = no_clause c.target_column-column.result in
    let ps = all_placed c.tokens-tokens.result.now in
    ap is_whole (c.in_ok-put_before_end.ensures
    ∙ ap (λ (xs : List PlacedLexeme). all_placed xs ++ before_end new ps) c.new-put.ensures.items)
    ∙ noted_whole c.target_column-column.result ps c.tokens-tokens.ensures.whole
