use Rattle.std.proofs.Common.{◌≡◌, length}
use Rattle.c_grammar.specs.Shared.{loops_on}
use Rattle.c_written.specs.Spots.{all_kinds}
use Rattle.c_written.proofs.shared.loops_on.Given as goal

abbrev pub invariant-tokens : goal.invariant-tokens
invariant-tokens l = loops_on (all_kinds l.rest) ≡ loops_on (all_kinds l.tokens)

abbrev pub decreases-tokens : goal.decreases-tokens
decreases-tokens l = length l.rest
