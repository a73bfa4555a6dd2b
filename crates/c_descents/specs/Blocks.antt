-- The open blocks.
use Rattle.std.specs.Prelude.{List, map, reverse}
use Rattle.c_grammar.specs.Descents.{Open, Plain, Small, Turned}
use Rattle.c_descents.specs.declared.blocks.Blocks.{Blocks}
use Rattle.c_descents.specs.declared.blocks.Open.{Open as Given}
use Rattle.c_descents.specs.declared.blocks.Open.TheVariants as given
use Rattle.c_descents.specs.Parts.{all_parts}

abbrev pub seen_open : Given → Open
seen_open given.Plain = Plain
seen_open (given.Small x) = Small x.now
seen_open (given.Turned t) = Turned t.name.now t.small (all_parts t.stands.items)

abbrev pub blocks_of : List Given → List Open
blocks_of os = reverse (map seen_open os)

-- the innermost first
abbrev pub open_blocks : Blocks → List Open
open_blocks b = blocks_of b.items.items
