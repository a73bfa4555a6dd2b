-- The piece at the front of the rest of a line.
use Rattle.std.specs.Prelude.{ℕ, List, [], ◌∷◌}
use Rattle.c_tokens.specs.declared.kind.Mood.{Mood}
use Rattle.c_tokens.specs.declared.kind.Piece.{Piece}
use Rattle.c_tokens.specs.declared.kind.Piece.TheVariants as piece
use Rattle.c_grammar.specs.Lexeme.{piece_on_line}

abbrev pub piece_on : Mood → List ℕ → Piece
piece_on mood [] = piece.Unknown
piece_on mood (b ∷ bs) = piece_on_line mood b bs
