use Rattle.std.proofs.Common.{◌≡◌, ◌+◌, ◌≤◌, length}
use Rattle.c_grammar.specs.Sequences.{has_clause}
use Rattle.c_written.specs.Spots.{all_kinds}
use Rattle.c_written.proofs.sequences.has_clause.Given as goal

abbrev pub invariant-tokens : goal.invariant-tokens
invariant-tokens l = record {
  same : has_clause l.word l.depth (all_kinds l.rest) ≡ has_clause l.word 0 (all_kinds l.tokens);
  few : l.depth + length l.rest ≤ length l.tokens;
}

abbrev pub decreases-tokens : goal.decreases-tokens
decreases-tokens l = length l.rest
