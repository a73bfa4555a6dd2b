use Rattle.std.proofs.Common.{◌≡◌, map, take}
use Rattle.bits.specs.Sets.{has}
use Rattle.mapwalk.specs.Marks.{has_mark}
use Rattle.mapwalk.proofs.snapshot.is_same_side.Given as goal

abbrev pub invariant-arrays : goal.invariant-arrays
invariant-arrays l = map has (take l.array l.kept) ≡ map has_mark (take l.array l.side)
