-- What stands before a token.
use Rattle.c_grammar.specs.Declarations.{Before, Other, IsFor, MayBeInt}
use Rattle.c_written.specs.declared.declarations.Before.{Before as Given}
use Rattle.c_written.specs.declared.declarations.Before.TheVariants as given

abbrev pub seen_before : Given → Before
seen_before given.Other = Other
seen_before given.IsFor = IsFor
seen_before given.MayBeInt = MayBeInt
