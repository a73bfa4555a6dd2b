use Rattle.std.proofs.Common.{◌≡◌, ◌+◌, ◌≤◌, length}
use Rattle.std.specs.Prelude.{false}
use Rattle.c_grammar.specs.Nesting.{sums_mapped}
use Rattle.c_written.specs.Spots.{all_kinds}
use Rattle.c_written.proofs.nesting.sums_mapped.Given as goal

abbrev pub invariant-tokens : goal.invariant-tokens
invariant-tokens l = record {
  same : sums_mapped (all_kinds l.target) l.depth l.sum (all_kinds l.rest)
      ≡ sums_mapped (all_kinds l.target) 0 false (all_kinds l.tokens);
  few : l.depth + length l.rest ≤ length l.tokens;
}

abbrev pub decreases-tokens : goal.decreases-tokens
decreases-tokens l = length l.rest
