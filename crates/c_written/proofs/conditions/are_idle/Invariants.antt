use Rattle.std.proofs.Common.{◌≡◌, ◌+◌, ◌≤◌, length}
use Rattle.c_grammar.specs.Conditions.{are_idle}
use Rattle.c_written.specs.Spots.{all_kinds}
use Rattle.c_written.proofs.conditions.are_idle.Given as goal

abbrev pub invariant-tokens : goal.invariant-tokens
invariant-tokens l = record {
  same : are_idle l.depth (all_kinds l.rest) ≡ are_idle 0 (all_kinds l.tokens);
  few : l.depth + length l.rest ≤ length l.tokens;
}

abbrev pub decreases-tokens : goal.decreases-tokens
decreases-tokens l = length l.rest
