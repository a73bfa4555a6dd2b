use Rattle.directives.proofs.BoundsRead.{read_name}
use Rattle.directives.proofs.Devices.{at_name, at_number, bad_number, stop_number, is_device}
use Rattle.std.proofs.Common.{arith}
use Rattle.directives.proofs.line.Line.device.Goals as goal

pub returns-in_err-enter-in-Number-clause-read : goal.returns-in_err-enter-in-Number-clause-read
returns-in_err-enter-in-Number-clause-read c = grind (arith, at_number)

pub overflow_cast-result : goal.overflow_cast-result
overflow_cast-result c = grind (arith, is_device)

pub invariant_of-result : goal.invariant_of-result
invariant_of-result c = grind (arith, is_device)

pub returns-in_ok-enter-in-Number-clause-read : goal.returns-in_ok-enter-in-Number-clause-read
returns-in_ok-enter-in-Number-clause-read c = grind (arith, at_number)

pub returns-in_err-enter-in-Name-clause-read : goal.returns-in_err-enter-in-Name-clause-read
returns-in_err-enter-in-Name-clause-read c = grind (arith, at_name)

pub returns-in_ok-enter-in-Name-clause-read : goal.returns-in_ok-enter-in-Name-clause-read
returns-in_ok-enter-in-Name-clause-read c = grind (arith, at_name)

pub returns-in_ok-enter-in-Name-clause-tree : goal.returns-in_ok-enter-in-Name-clause-tree
returns-in_ok-enter-in-Name-clause-tree c = grind (arith, read_name)

pub returns-in-BadNumber-clause-read : goal.returns-in-BadNumber-clause-read
returns-in-BadNumber-clause-read c = grind (arith, bad_number)

pub returns-in_default : goal.returns-in_default
returns-in_default c = grind (arith, stop_number)
