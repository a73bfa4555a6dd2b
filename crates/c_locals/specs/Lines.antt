-- The tokens of directive lines.
use Rattle.std.specs.Prelude.{List, map}
use Rattle.c_grammar.specs.Lexeme.{Placed}
use Rattle.directives.specs.declared.lexeme.PlacedLexeme.{PlacedLexeme}
use Rattle.directives.specs.Seen.{seen_placed}

abbrev pub all_placed : List PlacedLexeme → List Placed
all_placed ps = map seen_placed ps
