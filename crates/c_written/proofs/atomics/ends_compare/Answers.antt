use Rattle.c_written.proofs.AtomicLines.{late_compare_end, no_compare_end}
use Rattle.c_written.proofs.atomics.ends_compare.Goals as goal

pub returns-in_default : goal.returns-in_default
returns-in_default c = no_compare_end c.args.tokens.now c.in_default.len_below

pub returns-in_default-2 : goal.returns-in_default-2
returns-in_default-2 c = late_compare_end c.args.tokens.now c.in_default.len_at_least
