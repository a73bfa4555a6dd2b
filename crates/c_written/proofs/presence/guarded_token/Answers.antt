use Rattle.std.proofs.Common.{◌∙◌, sym}
use Rattle.c_grammar.specs.Blocks.{bare}
use Rattle.c_terminals.specs.Seen.{seen_all}
use Rattle.c_written.proofs.Guarding.{guarded_put}
use Rattle.c_written.proofs.Putting.{all_names}
use Rattle.c_written.proofs.presence.guarded_token.Goals as goal

pub returns-then-is_directive : goal.returns-then-is_directive
returns-then-is_directive c =
    guarded_put (all_names c.args.names.now) c.args.token c.in-Line.line (bare (seen_all c.args.behind.now)) _ c.in-Line.is
    (sym c.is_directive.ensures ∙ c.if-is_directive.true) c.in_ok-with_clauses.ensures
