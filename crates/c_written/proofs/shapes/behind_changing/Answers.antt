use Rattle.std.proofs.Common.{◌∙◌, sym, ap, drop, List}
use Rattle.c_grammar.specs.Terminal.{Terminal}
use Rattle.c_grammar.specs.Constants.{behind_changing}
use Rattle.c_written.specs.Past.{past_of}
use Rattle.c_terminals.specs.Seen.{seen_terminal}
use Rattle.c_written.specs.Stack.{held}
use Rattle.c_written.proofs.Shaping.{drop_at, drop_none}
use Rattle.c_written.proofs.shapes.behind_changing.Goals as goal

pub returns-in-Some : goal.returns-in-Some
returns-in-Some c =
    c.is_changing.ensures (drop 1 (past_of c.args.past.now)) ∙ ap (λ (ts : List Terminal). behind_changing ts)
    (sym (drop_at seen_terminal (held c.args.past.now) 0 c.in-Some.terminal (sym c.peek.ensures ∙ c.in-Some.is)))

pub returns-in-None : goal.returns-in-None
returns-in-None c =
    ap (λ (ts : List Terminal). behind_changing ts)
    (sym (drop_none seen_terminal (held c.args.past.now) 0 (sym c.peek.ensures ∙ c.in-None.is)))
