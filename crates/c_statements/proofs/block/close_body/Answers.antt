use Rattle.c_statements.proofs.Braces.{go_closes}
use Rattle.c_statements.proofs.block.close_body.Goals as goal

pub returns-clause-read : goal.returns-clause-read
returns-clause-read c = λ s.
    go_closes c.args.scope.now c.close_frame.new.self s c.args.tokens.now c.take.new.self c.requires c.take.ensures
    (c.close_frame.ensures.closed 0 0)

pub returns-clause-closed : goal.returns-clause-closed
returns-clause-closed c = c.close_frame.ensures.closed 0 0
