use Rattle.std.proofs.Common.{◌≡◌}
use Rattle.outline.specs.Captures.{arrays_of}
use Rattle.outline.proofs.uses.arrays_in.Given as goal

abbrev pub invariant-arrays : goal.invariant-arrays
invariant-arrays l = l.arrays.items ≡ arrays_of l.array l.region
