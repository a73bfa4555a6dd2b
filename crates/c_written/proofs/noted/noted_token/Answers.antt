use Rattle.std.proofs.Common.{◌∙◌, List, sym, ap}
use Rattle.c_grammar.specs.Blocks.{bare}
use Rattle.c_grammar.specs.Lexeme.{Placed}
use Rattle.c_grammar.specs.Privates.{shares}
use Rattle.c_grammar.specs.Updates.{is_combined}
use Rattle.directives.specs.Spells.{kinds_of}
use Rattle.c_terminals.specs.Seen.{seen_all}
use Rattle.c_written.specs.Boxes.{texts}
use Rattle.c_written.proofs.KeptLines.{noted_put}
use Rattle.c_written.proofs.noted.noted_token.Goals as goal

pub returns-then-shares : goal.returns-then-shares
returns-then-shares c =
    noted_put (texts c.args.names.now) c.args.token c.in-Line.line (bare (seen_all c.args.behind.now)) _ c.in-Line.is
    (sym c.is_directive.ensures ∙ c.if-is_directive.true)
    (sym (c.is_combined.ensures ∙ ap (λ (ps : List Placed). is_combined (kinds_of ps)) c.tokens-tokens.ensures.tokens)
    ∙ c.if-is_combined.true)
    (sym (c.shares.ensures ∙ ap (λ (ps : List Placed). shares (texts c.args.names.now) (kinds_of ps) (bare (seen_all c.args.behind.now)))
    c.tokens-tokens.ensures.tokens) ∙ c.if-shares.true)
    c.in_ok-noted_line.ensures
