use Rattle.std.proofs.Common.{◌∙◌, ◌-◌, List, ◌++◌, length, take, drop, ap}
use Rattle.c_grammar.specs.Blocks.{bare}
use Rattle.c_grammar.specs.Lexeme.{Placed}
use Rattle.c_terminals.specs.Seen.{seen_all}
use Rattle.c_written.specs.Forms.{all_placed}
use Rattle.c_written.proofs.Guarding.{long_clauses, order_clause, short_clauses}
use Rattle.c_written.proofs.Putting.{all_names}
use Rattle.c_written.proofs.presence.line_clauses.Goals as goal

pub returns : goal.returns
returns c =
    let names = all_names c.args.names.now in
    let ts = c.args.tokens.now in
    c.in_ok-put_orders.ensures
    ∙ ap (λ (ps : List Placed). ps ++ order_clause names c.args.column (take (length ts - 3) (drop 3 ts))) c.in_ok-put.ensures
    ∙ long_clauses names c.args.column ts (bare (seen_all c.args.behind.now)) c.in-len3-up.len_at_least

pub returns-in_default : goal.returns-in_default
returns-in_default c =
    ap all_placed c.new.ensures.items
    ∙ short_clauses (all_names c.args.names.now) c.args.column c.args.tokens.now (bare (seen_all c.args.behind.now))
    c.in_default.len_below
