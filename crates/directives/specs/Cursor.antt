-- What a reader of a line has left.
use Rattle.std.specs.Prelude.{List, [], ◌∷◌, map}
use Rattle.c_grammar.specs.Lexeme.{Lexeme, Placed}
use Rattle.c_grammar.specs.Texts.{Item}
use Rattle.directives.specs.declared.line.Line.{Line}
use Rattle.directives.specs.Seen.{seen_placed}
use Rattle.directives.specs.Ahead.{ahead_on_line}

abbrev pub Items : Type 0
Items = List (Item Lexeme)

abbrev pub item_of : Placed → Item Lexeme
item_of p = record { terminal = p.lexeme; line = 0; column = p.column; columns = [] }

-- the tokens of a line
abbrev pub line_items : List Placed → Items
line_items ps = map item_of ps

-- the next token
abbrev pub first_item : Line → Item Lexeme
first_item l = item_of (seen_placed l.token)

-- the tokens after the next
abbrev pub behind : Line → Items
behind l = map item_of (ahead_on_line l.lexemes)

-- the tokens from the next on
abbrev pub items : Line → Items
items l = first_item l ∷ behind l
