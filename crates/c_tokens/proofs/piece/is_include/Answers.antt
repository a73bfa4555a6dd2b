use Rattle.c_tokens.specs.Piece.{is_include}
use Rattle.std.proofs.Common.{arith}
use Rattle.std.proofs.lemmas.Grind.{common_steps}
use Rattle.c_tokens.proofs.piece.is_include.Goals as goal

pub returns : goal.returns
unfolding is_include
returns c = grind (arith, common_steps)
