-- The tokens of a line with their columns.
use Rattle.std.proofs.Common.{◌≡◌, List, [], ◌∷◌, refl, ap}
use Rattle.c_grammar.specs.Lexeme.{Placed}
use Rattle.c_grammar.specs.Expressions.{placed_of}
use Rattle.directives.specs.Spells.{columns_of, kinds_of}

pub placed_again : (ps : List Placed) → placed_of (kinds_of ps) (columns_of ps) ≡ ps
placed_again [] = refl
placed_again (p ∷ ps) = ap (λ (qs : List Placed). p ∷ qs) (placed_again ps)
