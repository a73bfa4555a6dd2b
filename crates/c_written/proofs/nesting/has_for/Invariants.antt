use Rattle.std.proofs.Common.{◌≡◌, length}
use Rattle.c_grammar.specs.Nesting.{has_for}
use Rattle.c_written.specs.Spots.{all_kinds}
use Rattle.c_written.proofs.nesting.has_for.Given as goal

abbrev pub invariant-tokens : goal.invariant-tokens
invariant-tokens l = has_for (all_kinds l.rest) ≡ has_for (all_kinds l.tokens)

abbrev pub decreases-tokens : goal.decreases-tokens
decreases-tokens l = length l.rest
