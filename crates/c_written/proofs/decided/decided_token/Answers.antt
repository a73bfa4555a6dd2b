use Rattle.std.proofs.Common.{◌∙◌, sym, ap}
use Rattle.std.specs.Option.{option_map}
use Rattle.c_grammar.specs.Blocks.{bare}
use Rattle.directives.specs.Ahead.{seen_line}
use Rattle.c_terminals.specs.Seen.{seen_all}
use Rattle.c_written.proofs.Deciding.{decided_put, put_of}
use Rattle.c_written.proofs.decided.decided_token.Goals as goal

pub returns-in_default-2 : goal.returns-in_default-2
returns-in_default-2 c =
    ap (put_of c.args.token) (sym (ap (option_map seen_line) c.in_default-2.is) ∙ c.in_ok-put.ensures)
    ∙ decided_put c.args.token c.in-Line.line (bare (seen_all c.args.behind.now)) c.in-Line.is
    (sym c.is_directive.ensures ∙ c.if-is_directive.true)

pub returns-then-is_directive : goal.returns-then-is_directive
returns-then-is_directive c =
    ap (put_of c.args.token) (sym (ap (option_map seen_line) c.in-Some.is) ∙ c.in_ok-put.ensures)
    ∙ decided_put c.args.token c.in-Line.line (bare (seen_all c.args.behind.now)) c.in-Line.is
    (sym c.is_directive.ensures ∙ c.if-is_directive.true)
