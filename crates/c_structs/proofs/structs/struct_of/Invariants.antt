use Rattle.std.proofs.Common.{◌≡◌, length, map}
use Rattle.c_grammar.specs.Structs.{struct_of}
use Rattle.c_structs.specs.Definitions.{seen_struct}
use Rattle.c_structs.proofs.structs.struct_of.Given as goal

abbrev pub invariant-structs : goal.invariant-structs
invariant-structs l =
    struct_of (map seen_struct l.left) l.fn.tagged l.fn.name ≡
    struct_of (map seen_struct l.fn.structs) l.fn.tagged l.fn.name

abbrev pub decreases-structs : goal.decreases-structs
decreases-structs l = length l.left
