-- The open blocks with their arrays.
use Rattle.std.specs.Prelude.{List, map, reverse}
use Rattle.c_grammar.specs.Locals.{Array, Block, Cells, Open}
use Rattle.c_locals.specs.declared.blocks.Array.{Array as GivenArray}
use Rattle.c_locals.specs.declared.blocks.Blocks.{Blocks}
use Rattle.c_locals.specs.declared.blocks.Cells.{Cells as GivenCells}
use Rattle.c_locals.specs.declared.blocks.Open.{Open as Given}
use Rattle.c_locals.specs.declared.blocks.Open.TheVariants as given

abbrev pub seen_cells : GivenCells → Cells
seen_cells c = record { first = c.first; len = c.len }

abbrev pub seen_array : GivenArray → Open
seen_array a = Array a.name.now (seen_cells a.cells)

abbrev pub seen_open : Given → Open
seen_open given.Block = Block
seen_open (given.Array a) = seen_array a

abbrev pub blocks_of : List Given → List Open
blocks_of os = reverse (map seen_open os)

-- the innermost first
abbrev pub open_blocks : Blocks → List Open
open_blocks b = blocks_of b.items.items
