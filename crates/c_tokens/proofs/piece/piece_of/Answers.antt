use Rattle.c_tokens.specs.Piece.{piece_at}
use Rattle.std.proofs.Common.{arith}
use Rattle.std.proofs.lemmas.Grind.{common_steps}
use Rattle.c_tokens.proofs.piece.piece_of.Goals as goal

pub returns-then-is_include-clause-value : goal.returns-then-is_include-clause-value
unfolding piece_at
returns-then-is_include-clause-value c = grind (arith, common_steps)

pub returns-else-is_include-clause-value : goal.returns-else-is_include-clause-value
unfolding piece_at
returns-else-is_include-clause-value c = grind (arith, common_steps)

pub returns-in-Some-clause-value : goal.returns-in-Some-clause-value
unfolding piece_at
returns-in-Some-clause-value c = grind (arith, common_steps)

pub returns-in-None-clause-value : goal.returns-in-None-clause-value
unfolding piece_at
returns-in-None-clause-value c = grind (arith, common_steps)
