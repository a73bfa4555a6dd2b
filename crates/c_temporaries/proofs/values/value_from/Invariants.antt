use Rattle.std.proofs.Common.{◌≡◌, length}
use Rattle.c_temporaries.specs.Parts.{seen_knowns, seen_value}
use Rattle.c_temporaries.specs.Temporaries.{nothing_read, value_from}
use Rattle.c_terminals.specs.Ahead.{ahead}
use Rattle.c_temporaries.proofs.values.value_from.Given as goal

abbrev pub invariant-tokens : goal.invariant-tokens
invariant-tokens l =
    value_from (seen_knowns l.knowns) l.len (seen_value l.value) (ahead l.ahead)
    ≡ value_from (seen_knowns l.knowns) 0 nothing_read (ahead l.start)

abbrev pub decreases-tokens : goal.decreases-tokens
decreases-tokens l = length (ahead l.ahead)
