-- What the reader's values stand for in the grammar.
use Rattle.std.specs.Prelude.{◌≡◌, ℕ, List, map, Some, None}
use Rattle.c_grammar.specs.Lexeme.{Lexeme, Placed}
use Rattle.c_grammar.specs.Terminal.{Terminal, Fixed, Mark, Name, Num, Line, Unknown, Unworked, End}
use Rattle.directives.specs.Seen.{seen_word}
use Rattle.directives.specs.Ahead.{seen_line}
use Rattle.c_expressions.specs.declared.terminal.Terminal.{Terminal as GivenTerminal}
use Rattle.c_expressions.specs.declared.terminal.Terminal.TheVariants as given

-- the tokens of a line without their columns
abbrev pub kinds_on : List Placed → List Lexeme
kinds_on ps = map (λ p. p.lexeme) ps

-- the columns of the tokens of a line
abbrev pub columns_on : List Placed → List ℕ
columns_on ps = map (λ p. p.column) ps

-- the token of a source
abbrev pub seen : GivenTerminal → Terminal
seen (given.Word w) = Fixed (seen_word w)
seen (given.Sign s) = Mark s
seen (given.Name x) = Name x.now
seen (given.Number n) = Num (Some n)
seen given.BadNumber = Num None
seen (given.Line l) = Line (kinds_on (seen_line l.now))
seen given.Unknown = Unknown
seen given.Unworked = Unworked
seen given.End = End

-- the columns are those of the tokens of the line, if it is one
abbrev pub HasColumns : GivenTerminal → List ℕ → Type 0
HasColumns (given.Line l) columns = columns ≡ columns_on (seen_line l.now)
HasColumns _ columns = Unit {0}
