use Rattle.c_written.proofs.ClauseSteps.{clauses_done}
use Rattle.c_written.proofs.clauses.clauses_behind.Goals as goal

pub returns : goal.returns
returns c = clauses_done c.tokens.clauses c.tokens.rest.now _ c.in_default.len_below c.tokens.invariant.line
