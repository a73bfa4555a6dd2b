use Rattle.directives.proofs.Sharing.{at_chunk_number, bad_chunk_number, stop_chunk_number}
use Rattle.std.proofs.Common.{arith}
use Rattle.directives.proofs.line.Line.chunk_number.Goals as goal

pub returns-in_err-enter-in-Number-clause-read : goal.returns-in_err-enter-in-Number-clause-read
returns-in_err-enter-in-Number-clause-read c = grind (arith, at_chunk_number)

pub returns-in_ok-enter-in-Number-clause-read : goal.returns-in_ok-enter-in-Number-clause-read
returns-in_ok-enter-in-Number-clause-read c = grind (arith, at_chunk_number)

pub returns-in-BadNumber-clause-read : goal.returns-in-BadNumber-clause-read
returns-in-BadNumber-clause-read c = grind (arith, bad_chunk_number)

pub returns-in_default : goal.returns-in_default
returns-in_default c = grind (arith, stop_chunk_number)
