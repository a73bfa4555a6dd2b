use Rattle.std.proofs.Common.{◌≡◌, map, take}
use Rattle.bits.specs.Sets.{has}
use Rattle.mapwalk.specs.Marks.{has_mark}
use Rattle.mapwalk.proofs.snapshot.copy_of_side.Given as goal

abbrev pub invariant-arrays : goal.invariant-arrays
invariant-arrays l = map has l.copy.items ≡ map has_mark (take l.marks-index l.side)
