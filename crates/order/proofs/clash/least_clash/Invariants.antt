use Rattle.std.proofs.Common.{◌≡◌, drop, None}
use Rattle.order.specs.Clashes.{least_of_all}
use Rattle.order.proofs.clash.least_clash.Given as goal

abbrev pub invariant-loop-depend : goal.invariant-loop-depend
invariant-loop-depend l = least_of_all (drop l.depend-index l.depends) l.others l.least ≡ least_of_all l.depends l.others None
