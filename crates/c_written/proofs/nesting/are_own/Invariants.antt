use Rattle.std.proofs.Common.{◌≡◌, ◌+◌, ◌≤◌, length}
use Rattle.c_grammar.specs.Nesting.{are_own}
use Rattle.c_written.specs.Spots.{all_kinds}
use Rattle.c_written.proofs.nesting.are_own.Given as goal

abbrev pub invariant-tokens : goal.invariant-tokens
invariant-tokens l = record {
  same : are_own (all_kinds l.words) l.depth (all_kinds l.rest) ≡ are_own (all_kinds l.words) 0 (all_kinds l.tokens);
  few : l.depth + length l.rest ≤ length l.tokens;
}

abbrev pub decreases-tokens : goal.decreases-tokens
decreases-tokens l = length l.rest
