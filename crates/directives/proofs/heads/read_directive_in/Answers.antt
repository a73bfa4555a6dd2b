use Rattle.directives.proofs.Answering.{told, spells, no_directive, first_line_fault}
use Rattle.directives.proofs.InSource.{in_source}
use Rattle.std.proofs.Common.{arith}
use Rattle.directives.proofs.heads.read_directive_in.Goals as goal

pub returns-in-Ok-clause-found : goal.returns-in-Ok-clause-found
returns-in-Ok-clause-found c = grind (arith, spells)

pub returns-in-Ok-clause-sound : goal.returns-in-Ok-clause-sound
returns-in-Ok-clause-sound c = grind (arith, told)

pub returns-in-Ok-clause-source : goal.returns-in-Ok-clause-source
returns-in-Ok-clause-source c = grind (arith, spells, first_line_fault, told, no_directive, in_source)

pub returns-in-Err-Line-clause-fault : goal.returns-in-Err-Line-clause-fault
returns-in-Err-Line-clause-fault c = grind (arith, first_line_fault)

pub returns-in-Err-Line-clause-told : goal.returns-in-Err-Line-clause-told
returns-in-Err-Line-clause-told c = grind (arith, told)

pub returns-in-Err-Line-clause-refused : goal.returns-in-Err-Line-clause-refused
returns-in-Err-Line-clause-refused c = grind (arith, no_directive)
