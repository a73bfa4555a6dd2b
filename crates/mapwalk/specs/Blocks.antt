-- What the blocks of the code stand for.
use Rattle.base.specs.Map.{Block, Presence, Absent, Inside, InPart}
use Rattle.mapwalk.specs.declared.blocks.Block.{Block as Kept}
use Rattle.mapwalk.specs.declared.blocks.Place.{Place}
use Rattle.mapwalk.specs.declared.blocks.Place.TheVariants as place

abbrev pub block_of : Kept → Block
block_of b = record { section = b.section; count = b.count }

abbrev pub present_at : Place → Presence
present_at place.Absent = Absent
present_at (place.Inside b) = Inside (block_of b)
present_at place.InPart = InPart
