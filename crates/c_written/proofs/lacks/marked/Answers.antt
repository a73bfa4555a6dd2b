use Rattle.std.proofs.Common.{◌∙◌, Bool, List, sym, ap}
use Rattle.c_grammar.specs.Lexeme.{Placed}
use Rattle.c_grammar.specs.Presence.{is_target}
use Rattle.c_grammar.specs.Shared.{marked_at}
use Rattle.directives.specs.Spells.{kinds_of}
use Rattle.c_terminals.specs.Seen.{seen, seen_terminal}
use Rattle.c_written.proofs.KeptLines.{marked_put}
use Rattle.c_written.proofs.lacks.marked.Goals as goal

pub returns-then-lacks : goal.returns-then-lacks
returns-then-lacks c =
    marked_put c.args.token c.in-Line.line _ c.in-Line.is
    (sym c.is_directive.ensures ∙ c.if-is_directive.true)
    (sym (c.is_target.ensures ∙ ap (λ (ps : List Placed). is_target (kinds_of ps)) c.tokens.ensures.tokens) ∙ c.if-is_target.true)
    c.in_ok-noted_line.ensures
    ∙ ap (λ (b : Bool). marked_at b (seen c.args.token) (seen_terminal c.args.token.terminal)) (sym c.if-lacks.true)
