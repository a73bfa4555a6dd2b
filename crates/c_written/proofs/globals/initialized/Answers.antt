use Rattle.c_grammar.specs.Initial.{initialized}
use Rattle.c_written.specs.Globals.{state_of}
use Rattle.c_written.proofs.Declaring.{globals_end}
use Rattle.c_terminals.proofs.Lists.{written_all}
use Rattle.c_written.proofs.globals.initialized.Goals as goal

pub returns : goal.returns
returns c =
    written_all _ _ (initialized (state_of c.tokens.globals) c.tokens.globals.left) _ c.in_default.len_below (globals_end _ _)
    c.tokens.invariant
