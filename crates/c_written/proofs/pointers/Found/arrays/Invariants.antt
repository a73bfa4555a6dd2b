use Rattle.std.proofs.Common.{◌≡◌, ◌++◌, length, map}
use Rattle.c_grammar.specs.Pointers.{arrays, arrays_among}
use Rattle.c_written.specs.Pointers.{seen_found}
use Rattle.c_written.proofs.pointers.Found.arrays.Given as goal

abbrev pub invariant-names : goal.invariant-names
invariant-names l =
    map (λ x. x.now) l.arrays.items ++ arrays_among (seen_found l.self) (map (λ x. x.now) l.left) ≡ arrays (seen_found l.self)

abbrev pub decreases-names : goal.decreases-names
decreases-names l = length l.left
