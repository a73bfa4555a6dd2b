use Rattle.std.proofs.Common.{◌≡◌, ◌≤◌, length}
use Rattle.c_temporaries.specs.Parts.{knowns_of}
use Rattle.c_temporaries.specs.Temporaries.{value_of}
use Rattle.c_temporaries.proofs.knowns.value_among.Given as goal

abbrev pub invariant-names : goal.invariant-names
invariant-names l =
    (value_of (knowns_of l.rest) l.fn.name ≡ value_of (knowns_of l.fn.knowns) l.fn.name) ×
    (length l.rest ≤ length l.fn.knowns)

abbrev pub decreases-names : goal.decreases-names
decreases-names l = length l.rest
