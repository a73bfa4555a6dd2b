use Rattle.c_written.proofs.TakenClauses.{no_reduction}
use Rattle.c_written.proofs.reductions.reduction_at.Goals as goal

pub returns-in_default : goal.returns-in_default
returns-in_default c = no_reduction c.args.tokens.now c.in_default.len_below
