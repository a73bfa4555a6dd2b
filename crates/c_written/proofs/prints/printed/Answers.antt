use Rattle.c_grammar.specs.Prints.{printed}
use Rattle.c_terminals.proofs.Lists.{written_all}
use Rattle.c_written.proofs.Printing.{printed_end}
use Rattle.c_written.proofs.prints.printed.Goals as goal

pub returns : goal.returns
returns c = written_all _ _ (printed c.tokens.prints.left) _ c.in_default.len_below (printed_end _) c.tokens.invariant
