use Rattle.std.proofs.Common.{◌≡◌, map, take}
use Rattle.device.specs.Standing.{row_parts}
use Rattle.device.proofs.same_frame.are_same_rows.Given as goal

abbrev pub invariant-each : goal.invariant-each
invariant-each l = map row_parts (take l.i l.left) ≡ map row_parts (take l.i l.right)
