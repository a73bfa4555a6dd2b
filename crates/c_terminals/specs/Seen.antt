-- What the tokens here stand for in the grammar.
use Rattle.std.specs.Prelude.{ℕ, List, [], map, Some, None}
use Rattle.c_grammar.specs.Terminal.{Terminal, Fixed, Mark, Name, Num, Line, Unknown, Unworked}
use Rattle.c_grammar.specs.Texts.{Item}
use Rattle.c_grammar.specs.Blocks.{Items}
use Rattle.directives.specs.Seen.{seen_word}
use Rattle.directives.specs.Ahead.{seen_line}
use Rattle.directives.specs.Spells.{kinds_of, columns_of}
use Rattle.c_terminals.specs.declared.token.Terminal.{Terminal as Given}
use Rattle.c_terminals.specs.declared.token.Terminal.TheVariants as given
use Rattle.c_terminals.specs.declared.token.Token.{Token}

abbrev pub seen_terminal : Given → Terminal
seen_terminal (given.Word w) = Fixed (seen_word w)
seen_terminal (given.Sign s) = Mark s
seen_terminal (given.Name x) = Name x.now
seen_terminal (given.Number n) = Num (Some n)
seen_terminal given.BadNumber = Num None
seen_terminal (given.Line l) = Line (kinds_of (seen_line l.now))
seen_terminal given.Unknown = Unknown
seen_terminal given.Unworked = Unworked

-- the columns of the tokens of a line
abbrev pub columns_in : Given → List ℕ
columns_in (given.Line l) = columns_of (seen_line l.now)
columns_in _ = []

abbrev pub item_at : Token → Given → Item Terminal
item_at t g = record { terminal = seen_terminal g; line = t.line; column = t.column; columns = columns_in g }

-- a token
abbrev pub seen : Token → Item Terminal
seen t = item_at t t.terminal

abbrev pub seen_all : List Token → Items
seen_all ts = map seen ts
