use Rattle.c_written.proofs.Working.{all_written}
use Rattle.c_written.proofs.constants.worked.Goals as goal

pub returns : goal.returns
returns c = all_written c.tokens.constants c.tokens.rest.now _ c.in_default.len_below c.tokens.invariant.line
