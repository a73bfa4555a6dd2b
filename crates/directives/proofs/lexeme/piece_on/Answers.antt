use Rattle.c_grammar.specs.Lexeme.{piece_on_line}
use Rattle.std.proofs.Common.{arith}
use Rattle.std.proofs.lemmas.Grind.{common_steps}
use Rattle.directives.proofs.lexeme.piece_on.Goals as goal

pub returns-then-is_digit-clause-within : goal.returns-then-is_digit-clause-within
unfolding piece_on_line
returns-then-is_digit-clause-within c = grind (arith, common_steps)

pub returns-in_default : goal.returns-in_default
unfolding piece_on_line
returns-in_default c = grind (arith, common_steps)
