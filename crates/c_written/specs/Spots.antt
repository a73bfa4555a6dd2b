-- Where names stand on a directive line.
use Rattle.std.specs.Prelude.{List}
use Rattle.c_grammar.specs.Lexeme.{Lexeme}
use Rattle.c_grammar.specs.Functions as functions
use Rattle.directives.specs.declared.lexeme.PlacedLexeme.{PlacedLexeme}
use Rattle.directives.specs.Spells.{kinds_of}
use Rattle.c_written.specs.declared.spots.Spot.{Spot}
use Rattle.c_written.specs.Forms.{all_placed}

abbrev pub seen_spot : Spot → functions.Spot
seen_spot s = record { left = s.left; depth = s.depth; names = s.names }

abbrev pub all_kinds : List PlacedLexeme → List Lexeme
all_kinds ps = kinds_of (all_placed ps)
