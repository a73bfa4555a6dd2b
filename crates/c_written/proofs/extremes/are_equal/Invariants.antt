use Rattle.std.proofs.Common.{◌≡◌, length}
use Rattle.c_grammar.specs.Updates.{are_equal}
use Rattle.c_written.specs.Extremes.{all_seen}
use Rattle.c_written.proofs.extremes.are_equal.Given as goal

abbrev pub invariant-tokens : goal.invariant-tokens
invariant-tokens l = are_equal (all_seen l.ours) (all_seen l.theirs) ≡ are_equal (all_seen l.left) (all_seen l.right)

abbrev pub decreases-tokens : goal.decreases-tokens
decreases-tokens l = length l.ours
