use Rattle.std.proofs.Common.{◌≡◌, length, map}
use Rattle.c_grammar.specs.Structs.{holder_of}
use Rattle.c_structs.specs.Found.{seen_holder}
use Rattle.c_structs.proofs.found.Found.holder_of.Given as goal

abbrev pub invariant-holders : goal.invariant-holders
invariant-holders l =
    holder_of (map seen_holder l.left) l.name ≡ holder_of (map seen_holder l.self.holders.items) l.name

abbrev pub decreases-holders : goal.decreases-holders
decreases-holders l = length l.left
