use Rattle.std.proofs.Common.{take}
use Rattle.base.specs.Least.{IsLeast}
use Rattle.mapcheck.specs.Collisions.{collides}
use Rattle.mapcheck.proofs.conflict.least_with.Given as goal

abbrev pub invariant-others : goal.invariant-others
invariant-others l = IsLeast (collides l.access (take l.other-index l.others)) l.least
