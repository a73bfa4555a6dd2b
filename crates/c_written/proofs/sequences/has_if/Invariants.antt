use Rattle.std.proofs.Common.{◌≡◌, length}
use Rattle.c_grammar.specs.Sequences.{has_if}
use Rattle.c_written.specs.Spots.{all_kinds}
use Rattle.c_written.proofs.sequences.has_if.Given as goal

abbrev pub invariant-tokens : goal.invariant-tokens
invariant-tokens l = has_if (all_kinds l.rest) ≡ has_if (all_kinds l.tokens)

abbrev pub decreases-tokens : goal.decreases-tokens
decreases-tokens l = length l.rest
