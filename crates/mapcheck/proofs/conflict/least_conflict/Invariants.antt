use Rattle.std.proofs.Common.{take}
use Rattle.base.specs.Least.{IsLeast}
use Rattle.mapcheck.specs.Collisions.{some_collide}
use Rattle.mapcheck.proofs.conflict.least_conflict.Given as goal

abbrev pub invariant-accesses : goal.invariant-accesses
invariant-accesses l = IsLeast (some_collide (take l.access-index l.access-items) l.right.list.items) l.least
