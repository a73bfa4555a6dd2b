use Rattle.std.proofs.Common.{◌≡◌, drop}
use Rattle.order.specs.Clashes.{least_of_one}
use Rattle.order.proofs.clash.least_of_one.Given as goal

abbrev pub invariant-loop-other : goal.invariant-loop-other
invariant-loop-other l = least_of_one l.depend (drop l.other-index l.others) l.least ≡ least_of_one l.depend l.others l.fn.found
