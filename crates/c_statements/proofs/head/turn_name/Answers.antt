use Rattle.c_statements.proofs.Heads.{long_turn, bad_turn, stop_turn}
use Rattle.std.proofs.Common.{arith}
use Rattle.c_statements.proofs.head.turn_name.Goals as goal

pub returns-then-is_visible-clause-read : goal.returns-then-is_visible-clause-read
returns-then-is_visible-clause-read c = grind (arith, bad_turn)

pub returns-then-name-gt-MAX_NAME-clause-read : goal.returns-then-name-gt-MAX_NAME-clause-read
returns-then-name-gt-MAX_NAME-clause-read c = grind (arith, long_turn)

pub returns-in_default : goal.returns-in_default
returns-in_default c = grind (arith, stop_turn)
