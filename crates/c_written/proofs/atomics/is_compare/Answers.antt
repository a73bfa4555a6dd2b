use Rattle.c_written.proofs.AtomicLines.{no_compare}
use Rattle.c_written.proofs.atomics.is_compare.Goals as goal

pub returns-in_default : goal.returns-in_default
returns-in_default c = no_compare c.args.tokens.now c.in_default.len_below
