use Rattle.std.proofs.Common.{◌≡◌, map, take}
use Rattle.base.specs.Actions.{rests}
use Rattle.mapwalk.specs.Table.{blocks_of}
use Rattle.mapwalk.proofs.table.Blocks.resting.Given as goal

abbrev pub invariant-maps : goal.invariant-maps
invariant-maps l = l.rests.items ≡ map (rests (blocks_of l.self)) (take l.item-index l.maps)
