-- Lines that begin with #.
use Rattle.std.specs.Prelude.{ℕ, []}
use Rattle.c_grammar.specs.Terminal.{Terminal}
use Rattle.c_grammar.specs.Texts.{Item}
use Rattle.c_grammar.specs.Lexeme.{Placed}
use Rattle.c_grammar.specs.Expressions.{as_terminal}

-- a token of a line
abbrev pub item_of : ℕ → Placed → Item Terminal
item_of line p = record { terminal = as_terminal p.lexeme; line = line; column = p.column; columns = [] }
