use Rattle.std.proofs.Common.{◌≡◌, ◌+◌, ◌≤◌, length}
use Rattle.c_grammar.specs.Shared.{same_bounds}
use Rattle.c_written.specs.Spots.{all_kinds}
use Rattle.c_written.proofs.parted.same_bounds.Given as goal

abbrev pub invariant-tokens : goal.invariant-tokens
invariant-tokens l = record {
  same : same_bounds l.depth (all_kinds l.rest) (all_kinds l.others) ≡ same_bounds 0 (all_kinds l.left) (all_kinds l.right);
  few : l.depth + length l.rest ≤ length l.left;
}

abbrev pub decreases-tokens : goal.decreases-tokens
decreases-tokens l = length l.rest
