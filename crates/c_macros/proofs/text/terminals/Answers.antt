use Rattle.c_macros.proofs.Steps.{terminals_end}
use Rattle.c_macros.proofs.text.terminals.Goals as goal

pub returns : goal.returns
returns c = terminals_end _ _ _ c.in_default.len_below c.tokens.invariant
