-- What a cursor has left.
use Rattle.std.specs.Prelude.{List, [], ◌∷◌, ◌++◌, map}
use Rattle.c_grammar.specs.Terminal.{Terminal, End}
use Rattle.c_grammar.specs.Texts.{Item}
use Rattle.c_terminals.specs.declared.held.Written.{Written}
use Rattle.c_terminals.specs.Held.{seen_written}
use Rattle.c_expressions.specs.declared.cursor.Cursor.{Cursor}
use Rattle.c_expressions.specs.Means.{Items}

abbrev pub end_item : Cursor → Item Terminal
end_item c = record { terminal = End; line = c.end_line; column = c.end_column; columns = [] }

abbrev pub item_or_end : Cursor → List Written → Item Terminal
item_or_end c [] = end_item c
item_or_end c (t ∷ ts) = seen_written t

-- the next token
abbrev pub first_item : Cursor → Item Terminal
first_item c = item_or_end c c.tokens.now

abbrev pub more : Cursor → List Written → Items
more c [] = []
more c (t ∷ ts) = map seen_written ts ++ end_item c ∷ []

-- the tokens after the next
abbrev pub behind : Cursor → Items
behind c = more c c.tokens.now

-- the tokens from the next on
abbrev pub items : Cursor → Items
items c = first_item c ∷ behind c
