-- What the tables of the code stand for.
use Rattle.std.specs.Prelude.{ℕ, List, [], Option, Some, None, Vec, map, slice_get}
use Rattle.std.specs.declared.alloc.Global.{Global}
use Rattle.base.specs.Map.{Block, Move, Presence, Absent, Inside, InPart}
use Rattle.maps.specs.declared.blocks.Block.{Block as Kept}
use Rattle.maps.specs.declared.blocks.Place.{Place}
use Rattle.maps.specs.declared.blocks.Place.TheVariants as place
use Rattle.maps.specs.declared.moves.Moved.{Moved}
use Rattle.maps.specs.declared.tables.Met.{Met as Held}
use Rattle.maps.specs.Maps.{Met, role_of}

abbrev pub block_of : Kept → Block
block_of b = record { section = b.section; count = b.count }

abbrev pub place_of : Place → Presence
place_of place.Absent = Absent
place_of (place.Inside b) = Inside (block_of b)
place_of place.InPart = InPart

abbrev pub moved_of : Move → Moved
moved_of m = record { block = m.block; changes = m.changes; copies = m.copies }

-- the blocks of one device, none of what is no device
abbrev pub blocks_in : Option (Vec Kept Global) → List Block
blocks_in None = []
blocks_in (Some v) = map block_of v.items

abbrev pub tables_in : List (Vec Kept Global) → ℕ → List Block
tables_in tables d = blocks_in (slice_get tables d)

abbrev pub met_of : Held → Met
met_of m = record { role = role_of m.item.now; deed = m.deed }
