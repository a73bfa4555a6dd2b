-- The tokens without definitions, from what has been read.
use Rattle.std.specs.Prelude.{◌++◌, map, reverse}
use Rattle.c_grammar.specs.Blocks.{Items}
use Rattle.c_grammar.specs.Constants.{Names, undefined}
use Rattle.c_written.specs.declared.definitions.Definitions.{Definitions}
use Rattle.c_terminals.specs.Seen.{seen_all}

-- the names of the globals so far, the last one first
abbrev pub names_of : Definitions → Names
names_of d = reverse (map (λ x. x.now) d.names.items)

-- what is written in the end, where these tokens follow
abbrev pub with_definitions : Definitions → Items → Items
with_definitions d is = seen_all d.done.items ++ undefined (names_of d) d.depth d.left is
