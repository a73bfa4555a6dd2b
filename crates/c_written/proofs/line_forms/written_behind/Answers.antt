use Rattle.c_written.proofs.LineSteps.{line_done}
use Rattle.c_written.proofs.line_forms.written_behind.Goals as goal

pub returns : goal.returns
returns c = line_done c.tokens.forms c.tokens.rest.now _ c.in_default.len_below c.tokens.invariant.line
