-- The open blocks.
use Rattle.std.specs.Prelude.{List, map, reverse}
use Rattle.c_grammar.specs.Loops.{Open, Plain, Turn, Branch, Left}
use Rattle.c_loops.specs.declared.blocks.Open.{Open as Given}
use Rattle.c_loops.specs.declared.blocks.Open.TheVariants as given
use Rattle.c_loops.specs.declared.blocks.Blocks.{Blocks}

abbrev pub seen_open : Given → Open
seen_open (given.Plain n) = Plain n
seen_open (given.Turn n) = Turn n
seen_open given.Branch = Branch
seen_open given.Left = Left

-- the innermost first
abbrev pub open_blocks : Blocks → List Open
open_blocks b = reverse (map seen_open b.items.items)
