use Rattle.std.proofs.Common.{◌≡◌, take}
use Rattle.order.specs.Apart.{sections_of}
use Rattle.order.proofs.apart.sections_of.Given as goal

abbrev pub invariant-loop-item : goal.invariant-loop-item
invariant-loop-item l = l.sections.items ≡ sections_of (take l.item-index l.items)
