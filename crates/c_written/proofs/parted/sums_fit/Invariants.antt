use Rattle.std.proofs.Common.{◌≡◌, ◌+◌, ◌≤◌, length}
use Rattle.std.specs.Prelude.{false}
use Rattle.c_grammar.specs.Shared.{sums_fit}
use Rattle.c_written.specs.Spots.{all_kinds}
use Rattle.c_written.proofs.parted.sums_fit.Given as goal

abbrev pub invariant-tokens : goal.invariant-tokens
invariant-tokens l = record {
  same : sums_fit (all_kinds l.line) l.depth l.sum (all_kinds l.rest) ≡ sums_fit (all_kinds l.line) 0 false (all_kinds l.line);
  few : l.depth + length l.rest ≤ length l.line;
}

abbrev pub decreases-tokens : goal.decreases-tokens
decreases-tokens l = length l.rest
