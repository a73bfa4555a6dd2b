use Rattle.std.proofs.Common.{◌≡◌}
use Rattle.c_ints.specs.Ints.{max_value, nothing_read, small_from}
use Rattle.c_ints.specs.Parts.{seen_kind, seen_value}
use Rattle.c_terminals.specs.Ahead.{ahead}
use Rattle.c_ints.proofs.values.small_from.Given as goal

abbrev pub invariant-tokens : goal.invariant-tokens
invariant-tokens l =
    small_from l.left (seen_kind l.kind) (seen_value l.value) (ahead l.ahead)
    ≡ small_from max_value (seen_kind l.kind) nothing_read (ahead l.start)

abbrev pub decreases-tokens : goal.decreases-tokens
decreases-tokens l = l.left
