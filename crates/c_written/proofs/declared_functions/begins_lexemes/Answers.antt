use Rattle.c_written.proofs.DeclaringFunctions.{no_begin}
use Rattle.c_written.proofs.declared_functions.begins_lexemes.Goals as goal

pub returns-in_default : goal.returns-in_default
returns-in_default c = no_begin c.args.tokens.now c.in_default.len_below
