use Rattle.std.proofs.Common.{◌≡◌, length}
use Rattle.c_grammar.specs.Conditions.{are_same}
use Rattle.c_written.specs.Spots.{all_kinds}
use Rattle.c_written.proofs.conditions.are_same.Given as goal

abbrev pub invariant-tokens : goal.invariant-tokens
invariant-tokens l = are_same (all_kinds l.rest) (all_kinds l.right) ≡ are_same (all_kinds l.tokens) (all_kinds l.others)

abbrev pub decreases-tokens : goal.decreases-tokens
decreases-tokens l = length l.rest
