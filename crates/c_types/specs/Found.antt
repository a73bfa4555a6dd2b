-- What a source declares, as the definition has it.
use Rattle.std.specs.Prelude.{List, map, reverse}
use Rattle.c_grammar.specs.Lexeme.{Lexeme}
use Rattle.c_grammar.specs.Types as spec
use Rattle.directives.specs.Seen.{seen_placed}
use Rattle.directives.specs.Spells.{kinds_of}
use Rattle.directives.specs.declared.lexeme.PlacedLexeme.{PlacedLexeme}
use Rattle.c_terminals.specs.Names.{seen_names}
use Rattle.c_types.specs.declared.functions.Called.{Called}
use Rattle.c_types.specs.declared.functions.Taken.{Taken}
use Rattle.c_types.specs.declared.functions.Taken.TheVariants as taken
use Rattle.c_types.specs.declared.found.Found.{Found}

abbrev pub seen_taken : Taken → spec.Taken
seen_taken taken.Number = spec.Number
seen_taken taken.Cells = spec.Cells
seen_taken taken.Any = spec.Any

abbrev pub all_taken : List Taken → List spec.Taken
all_taken ts = map seen_taken ts

abbrev pub seen_called : Called → spec.Called
seen_called c = record { name = c.name.now; takes = all_taken c.takes.items }

-- the last one first
abbrev pub all_called : List Called → List spec.Called
all_called cs = reverse (map seen_called cs)

abbrev pub all_lexemes : List PlacedLexeme → List Lexeme
all_lexemes ps = kinds_of (map seen_placed ps)

abbrev pub seen_found : Found → spec.Found
seen_found f = record {
  heads = seen_names f.heads;
  untyped = seen_names f.untyped;
  ints = seen_names f.ints;
  wides = seen_names f.wides;
  flags = seen_names f.flags;
  scalars = seen_names f.scalars;
  parameters = seen_names f.parameters;
  pointers = seen_names f.pointers;
  varied = seen_names f.varied;
  loose = seen_names f.loose;
  functions = all_called f.functions.items;
  defined = f.defined;
  enumerates = f.enumerates;
  large = f.large;
}
