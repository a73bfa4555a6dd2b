-- The open blocks.
use Rattle.std.specs.Prelude.{Bool, false, List, [], ◌∷◌, map, reverse}
use Rattle.c_grammar.specs.Triangles.{Open, Plain, Named}
use Rattle.c_triangles.specs.declared.blocks.Blocks.{Blocks}
use Rattle.c_triangles.specs.declared.blocks.Open.{Open as Given}
use Rattle.c_triangles.specs.declared.blocks.Open.TheVariants as given
use Rattle.c_triangles.specs.Bounds.{seen_range}

abbrev pub seen_open : Given → Open
seen_open given.Plain = Plain
seen_open (given.Named n) = Named n.name.now (seen_range n.range) n.guarded

abbrev pub blocks_of : List Given → List Open
blocks_of os = reverse (map seen_open os)

-- the innermost first
abbrev pub open_blocks : Blocks → List Open
open_blocks b = blocks_of b.items.items

-- an if stands in the innermost
abbrev pub is_guarded : List Open → Bool
is_guarded [] = false
is_guarded (Plain ∷ os) = false
is_guarded (Named x r g ∷ os) = g
