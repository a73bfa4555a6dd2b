use Rattle.std.proofs.Common.{◌≡◌, map, drop}
use Rattle.mapwalk.specs.Blocks.{block_of}
use Rattle.mapwalk.specs.Seen.{least_shared}
use Rattle.mapwalk.proofs.seen.least_common.Given as goal

abbrev pub invariant-each : goal.invariant-each
invariant-each l = least_shared l.section (map block_of (drop l.block-index l.blocks)) l.found
    ≡ least_shared l.section (map block_of l.blocks) l.fn.found
