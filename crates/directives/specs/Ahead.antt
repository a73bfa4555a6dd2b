-- What is left of a line.
use Rattle.std.specs.Prelude.{Bool, if◌then◌else◌, List, [], map}
use Rattle.c_grammar.specs.Lexeme.{Placed, lexemes_from}
use Rattle.directives.specs.declared.line_bytes.LineBytes.{LineBytes}
use Rattle.directives.specs.declared.line_tokens.LineTokens.{LineTokens}
use Rattle.directives.specs.declared.lexemes.Lexemes.{Lexemes}
use Rattle.directives.specs.Seen.{seen_placed, is_empty}

-- the tokens of the rest of a line's bytes
abbrev pub ahead_in_bytes : LineBytes → List Placed
ahead_in_bytes l = if l.over then [] else lexemes_from l.rest.now 0 l.mood l.column

-- the tokens of a line
abbrev pub seen_line : LineTokens → List Placed
seen_line l = map seen_placed l.tokens.items

-- the tokens of the rest of a line
abbrev pub ahead_on_line : Lexemes → List Placed
ahead_on_line l = map seen_placed l.rest.now

abbrev pub is_over : Lexemes → Bool
is_over l = is_empty l.rest.now
