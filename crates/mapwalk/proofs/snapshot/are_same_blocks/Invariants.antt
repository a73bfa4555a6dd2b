use Rattle.std.proofs.Common.{◌≡◌, take}
use Rattle.mapwalk.proofs.snapshot.are_same_blocks.Given as goal

abbrev pub invariant-each : goal.invariant-each
invariant-each l = take l.i l.left ≡ take l.i l.right
