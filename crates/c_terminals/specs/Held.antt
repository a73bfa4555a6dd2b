-- What tokens that own their lines stand for in the grammar.
use Rattle.std.specs.Prelude.{ℕ, List, [], map, Some, None}
use Rattle.c_grammar.specs.Terminal.{Terminal, Fixed, Mark, Name, Num, Line, Unknown, Unworked}
use Rattle.c_grammar.specs.Texts.{Item}
use Rattle.c_grammar.specs.Blocks.{Items}
use Rattle.directives.specs.Seen.{seen_word}
use Rattle.directives.specs.Ahead.{seen_line}
use Rattle.directives.specs.Spells.{kinds_of, columns_of}
use Rattle.c_terminals.specs.declared.held.WrittenTerminal.{WrittenTerminal}
use Rattle.c_terminals.specs.declared.held.WrittenTerminal.TheVariants as held
use Rattle.c_terminals.specs.declared.held.Written.{Written}

abbrev pub seen_held : WrittenTerminal → Terminal
seen_held (held.Word w) = Fixed (seen_word w)
seen_held (held.Sign s) = Mark s
seen_held (held.Name x) = Name x.now
seen_held (held.Number n) = Num (Some n)
seen_held held.BadNumber = Num None
seen_held (held.Line l) = Line (kinds_of (seen_line l))
seen_held held.Unknown = Unknown
seen_held held.Unworked = Unworked

abbrev pub columns_held : WrittenTerminal → List ℕ
columns_held (held.Line l) = columns_of (seen_line l)
columns_held _ = []

-- a token
abbrev pub seen_written : Written → Item Terminal
seen_written w = record { terminal = seen_held w.terminal; line = w.line; column = w.column; columns = columns_held w.terminal }

abbrev pub written_all : List Written → Items
written_all ws = map seen_written ws
