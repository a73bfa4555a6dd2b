use Rattle.c_statements.proofs.Begins.{stop_stmt, at_print, at_name, at_declaration, at_choice}
use Rattle.std.proofs.Common.{arith}
use Rattle.c_read.proofs.plain.plain.Goals as goal

pub returns-in-Word-Uint64-clause-read : goal.returns-in-Word-Uint64-clause-read
returns-in-Word-Uint64-clause-read c = grind (arith, at_declaration)

pub returns-in-Word-If-clause-read : goal.returns-in-Word-If-clause-read
returns-in-Word-If-clause-read c = grind (arith, at_choice)

pub returns-in-Word-Print-clause-read : goal.returns-in-Word-Print-clause-read
returns-in-Word-Print-clause-read c = grind (arith, at_print)

pub returns-in-Name-clause-read : goal.returns-in-Name-clause-read
returns-in-Name-clause-read c = grind (arith, at_name)

pub returns-in_default-clause-read : goal.returns-in_default-clause-read
returns-in_default-clause-read c = grind (arith, stop_stmt)
