use Rattle.std.proofs.Common.{◌∙◌, sym, arith}
use Rattle.c_expressions.specs.Changes.{turn_name}
use Rattle.c_statements.proofs.Braces.{stop_opens, deep_opens, go_opens}
use Rattle.c_statements.proofs.block.open_body.Goals as goal

pub returns-clause-read : goal.returns-clause-read
returns-clause-read c = λ s.
    go_opens c.args.scope.now c.open_frame.new.self (turn_name c.args.turn) s c.args.tokens.now c.take.new.self
    (sym c.at.ensures ∙ c.if-not-at.false) (omega (arith, c.len.ensures, c.if-len-gt-MAX_BRACES.false))
    c.take.ensures (c.in_ok-open_frame.ensures.opened 0 0)

pub returns-clause-opened : goal.returns-clause-opened
returns-clause-opened c = c.in_ok-open_frame.ensures.opened 0 0

pub returns-then-not-at-clause-read : goal.returns-then-not-at-clause-read
returns-then-not-at-clause-read c = grind (arith, stop_opens)

pub returns-then-len-gt-MAX_BRACES-clause-read : goal.returns-then-len-gt-MAX_BRACES-clause-read
returns-then-len-gt-MAX_BRACES-clause-read c = grind (arith, deep_opens)
