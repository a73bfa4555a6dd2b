use Rattle.std.proofs.Common.{◌≡◌, length, map}
use Rattle.c_grammar.specs.Pointers.{cells_of}
use Rattle.c_written.specs.Allocations.{seen_allocation}
use Rattle.c_written.proofs.pointers.Found.cells_for.Given as goal

abbrev pub invariant-arrays : goal.invariant-arrays
invariant-arrays l =
    cells_of (map seen_allocation l.left) l.name ≡ cells_of (map seen_allocation l.self.allocated.items) l.name

abbrev pub decreases-arrays : goal.decreases-arrays
decreases-arrays l = length l.left
