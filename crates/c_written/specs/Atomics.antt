-- Behind the word atomic of a line.
use Rattle.std.specs.Prelude.{Bool, false, ◌&&◌, List, [], ◌∷◌, codes}
use Rattle.c_grammar.specs.Lexeme.{Lexeme, Ended, same}
use Rattle.c_grammar.specs.Presence.{is_word}

-- the line ends, or does behind one word more, update
abbrev pub ends_atomic : List Lexeme → Bool
ends_atomic (e ∷ []) = same Ended e
ends_atomic (u ∷ e ∷ []) = is_word (codes "update") u && same Ended e
ends_atomic ts = false

-- a line ends behind the word compare
abbrev pub ends_compare : List Lexeme → Bool
ends_compare (u ∷ e ∷ []) = is_word (codes "compare") u && same Ended e
ends_compare ts = false
