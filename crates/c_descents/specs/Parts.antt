-- What stands for a name.
use Rattle.std.specs.Prelude.{List, map, Some, None}
use Rattle.c_grammar.specs.Descents.{Part, Signed, Called, Counted}
use Rattle.c_descents.specs.declared.parts.Part.{Part as Given}
use Rattle.c_descents.specs.declared.parts.Part.TheVariants as given

abbrev pub seen_part : Given → Part
seen_part (given.Sign s) = Signed s
seen_part (given.Name x) = Called x.now
seen_part (given.Number n) = Counted (Some n)
seen_part given.BadNumber = Counted None

abbrev pub all_parts : List Given → List Part
all_parts ps = map seen_part ps
