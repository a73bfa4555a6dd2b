use Rattle.std.proofs.Common.{sym}
use Rattle.c_macros.proofs.Steps.{defined_short}
use Rattle.c_macros.proofs.definitions.defined_in.Goals as goal

pub returns-in_default : goal.returns-in_default
returns-in_default c = sym (defined_short c.args.lexemes.now c.in_default.len_below)
