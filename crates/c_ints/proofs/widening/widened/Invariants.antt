use Rattle.std.proofs.Common.{◌≡◌, length}
use Rattle.c_ints.specs.Ints.{widened}
use Rattle.c_ints.specs.Parts.{with_rest}
use Rattle.c_terminals.specs.Seen.{seen_all}
use Rattle.c_ints.proofs.widening.widened.Given as goal

abbrev pub invariant-tokens : goal.invariant-tokens
invariant-tokens l = with_rest l.widening (seen_all l.rest) ≡ widened (seen_all l.fn.tokens)

abbrev pub decreases-tokens : goal.decreases-tokens
decreases-tokens l = length l.rest
