use Rattle.directives.proofs.Clausing.{at_device, device_is}
use Rattle.directives.proofs.ClausesRead.{read_device}
use Rattle.std.proofs.Common.{arith}
use Rattle.directives.proofs.line.Line.device_clause.Goals as goal

pub returns-in_err-enter-clause-read : goal.returns-in_err-enter-clause-read
returns-in_err-enter-clause-read c = grind (arith, at_device)

pub returns-in_err-expect-clause-read : goal.returns-in_err-expect-clause-read
returns-in_err-expect-clause-read c = grind (arith, at_device)

pub returns-in_err-device-clause-read : goal.returns-in_err-device-clause-read
returns-in_err-device-clause-read c = grind (arith, at_device)

pub returns-in_err-expect-2-clause-read : goal.returns-in_err-expect-2-clause-read
returns-in_err-expect-2-clause-read c = grind (arith, at_device)

pub returns-clause-read : goal.returns-clause-read
returns-clause-read c = grind (arith, at_device)

pub returns-clause-tree : goal.returns-clause-tree
returns-clause-tree c = grind (arith, device_is, read_device)
