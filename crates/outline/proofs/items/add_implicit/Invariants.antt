use Rattle.std.proofs.Common.{◌≡◌, ◌++◌, take}
use Rattle.outline.specs.Walk.{implicit_of}
use Rattle.outline.proofs.items.add_implicit.Given as goal

abbrev pub invariant-arrays : goal.invariant-arrays
invariant-arrays l = l.maps.items ≡ l.initial.maps.items
    ++ implicit_of l.lengths l.place l.written (take l.array-index l.arrays)
