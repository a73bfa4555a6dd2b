use Rattle.std.proofs.Common.{◌∙◌, sym, ap}
use Rattle.c_grammar.specs.Blocks.{bare}
use Rattle.c_grammar.specs.Presence.{is_target}
use Rattle.directives.specs.Spells.{kinds_of}
use Rattle.c_terminals.specs.Seen.{seen_all}
use Rattle.c_written.proofs.KeptLines.{owned_put}
use Rattle.c_written.proofs.privates.owned_token.Goals as goal

pub returns-then-is_target : goal.returns-then-is_target
returns-then-is_target c =
    owned_put c.args.token c.in-Line.line (bare (seen_all c.args.behind.now)) _ _ c.in-Line.is
    (sym c.is_directive.ensures ∙ c.if-is_directive.true)
    (sym (c.is_target.ensures ∙ ap (λ ls. is_target (kinds_of ls)) c.tokens.ensures.tokens) ∙ c.if-is_target.true)
    c.in_ok-names.ensures c.in_ok-owned_line.ensures
