use Rattle.std.proofs.Common.{arith}
use Rattle.c_statements.proofs.Braces.{deep_block, go_block}
use Rattle.c_statements.proofs.block.begin_block.Goals as goal

pub returns-clause-read : goal.returns-clause-read
returns-clause-read c = λ s.
    go_block c.args.scope.now c.open_frame.new.self s c.args.tokens.now c.take.new.self c.requires
    (omega (arith, c.len.ensures, c.if-len-gt-MAX_BRACES.false)) c.if-scope-ge-MAX_STATEMENTS.false
    c.take.ensures (c.in_ok-open_frame.ensures.opened 0 0)

pub returns-clause-opened : goal.returns-clause-opened
returns-clause-opened c = c.in_ok-open_frame.ensures.opened 0 0

pub returns-then-len-gt-MAX_BRACES-clause-read : goal.returns-then-len-gt-MAX_BRACES-clause-read
returns-then-len-gt-MAX_BRACES-clause-read c = grind (arith, deep_block)
