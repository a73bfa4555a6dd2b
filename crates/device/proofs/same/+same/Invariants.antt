use Rattle.std.proofs.Common.{◌≡◌, drop}
use Rattle.device.specs.Same.{same_list}
use Rattle.device.proofs.same.+same.Given as goal

abbrev pub invariant-is_same_list-each : goal.invariant-is_same_list-each
invariant-is_same_list-each l = same_list (drop l.i l.left) (drop l.i l.right) ≡ same_list l.left l.right
