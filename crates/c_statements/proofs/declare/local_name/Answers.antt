use Rattle.c_statements.proofs.Declares.{stop_local, long_local, bad_local}
use Rattle.std.proofs.Common.{arith}
use Rattle.c_statements.proofs.declare.local_name.Goals as goal

pub returns-then-is_visible-clause-read : goal.returns-then-is_visible-clause-read
returns-then-is_visible-clause-read c = grind (arith, bad_local)

pub returns-then-name-gt-MAX_NAME-clause-read : goal.returns-then-name-gt-MAX_NAME-clause-read
returns-then-name-gt-MAX_NAME-clause-read c = grind (arith, long_local)

pub returns-in_default : goal.returns-in_default
returns-in_default c = grind (arith, stop_local)
