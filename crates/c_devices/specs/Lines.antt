-- The tokens of directive lines.
use Rattle.std.specs.Prelude.{List, [], ◌∷◌, map}
use Rattle.c_grammar.specs.Lexeme.{Placed}
use Rattle.c_grammar.specs.Devices as grammar
use Rattle.c_grammar.specs.Devices.{Block, behind_lexeme, put_lexeme}
use Rattle.directives.specs.declared.lexeme.PlacedLexeme.{PlacedLexeme}
use Rattle.directives.specs.Seen.{seen_placed}
use Rattle.directives.specs.Spells.{kinds_of}
use Rattle.c_devices.specs.declared.lines.Before.{Before}
use Rattle.c_devices.specs.declared.lines.Before.TheVariants.{Other, Word, Bracket}

abbrev pub seen_before : Before → grammar.Before
seen_before Other = grammar.Other
seen_before Word = grammar.TheWord
seen_before Bracket = grammar.TheBracket

abbrev pub all_placed : List PlacedLexeme → List Placed
all_placed ps = map seen_placed ps

-- with their columns
abbrev pub put_placed : List Block → grammar.Before → List Placed → List Placed
put_placed bs b [] = []
put_placed bs b (p ∷ ps) =
    record { lexeme = put_lexeme bs b p.lexeme (kinds_of ps); column = p.column } ∷
    put_placed bs (behind_lexeme b p.lexeme) ps

-- all tokens of a line
abbrev pub line_placed : List Block → List Placed → List Placed
line_placed bs (p ∷ q ∷ ps) = p ∷ q ∷ put_placed bs grammar.Other ps
line_placed bs ps = ps
