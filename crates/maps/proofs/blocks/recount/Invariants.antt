use Rattle.std.proofs.Common.{◌≡◌, ◌++◌, map, take, drop}
use Rattle.base.specs.Map.{counted}
use Rattle.maps.specs.Shown.{block_of}
use Rattle.maps.proofs.blocks.recount.Given as goal

abbrev pub invariant-each : goal.invariant-each
invariant-each l =
    map block_of l.blocks ≡ map (counted l.section l.count) (take l.block-index (map block_of l.fn.blocks))
    ++ drop l.block-index (map block_of l.fn.blocks)
