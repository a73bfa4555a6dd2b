use Rattle.std.proofs.Common.{◌≡◌, ◌-◌, ◌^◌, drop}
use Rattle.c_grammar.specs.Constants.{in_enumeration}
use Rattle.c_written.specs.Past.{past_of}
use Rattle.c_written.proofs.shapes.in_enumeration.Given as goal

abbrev pub invariant-constants : goal.invariant-constants
invariant-constants l = in_enumeration (drop l.k (past_of l.past)) ≡ in_enumeration (drop l.fn.behind (past_of l.fn.past))

abbrev pub decreases-constants : goal.decreases-constants
decreases-constants l = 2 ^ 64 - l.k
