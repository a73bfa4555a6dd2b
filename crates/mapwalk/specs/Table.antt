-- What the table of the code stands for.
use Rattle.std.specs.Prelude.{List, map}
use Rattle.base.specs.Map.{Block}
use Rattle.mapwalk.specs.declared.table.Blocks.{Blocks}
use Rattle.mapwalk.specs.Blocks.{block_of}

abbrev pub blocks_of : Blocks → List Block
blocks_of b = map block_of b.blocks.items
