use Rattle.c_written.proofs.DeclaringFunctions.{no_declaration}
use Rattle.c_written.proofs.declared_functions.is_declaration.Goals as goal

pub returns-in_default : goal.returns-in_default
returns-in_default c = no_declaration c.args.tokens.now c.in_default.len_below
