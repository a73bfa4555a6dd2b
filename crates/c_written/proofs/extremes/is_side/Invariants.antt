use Rattle.std.proofs.Common.{◌≡◌, ◌+◌, ◌≤◌, length}
use Rattle.c_grammar.specs.Updates.{is_side}
use Rattle.c_written.specs.Extremes.{all_seen}
use Rattle.c_written.proofs.extremes.is_side.Given as goal

abbrev pub invariant-tokens : goal.invariant-tokens
invariant-tokens l = record {
  same : is_side l.name l.depth (all_seen l.rest) ≡ is_side l.name 0 (all_seen l.tokens);
  few : l.depth + length l.rest ≤ length l.tokens;
}

abbrev pub decreases-tokens : goal.decreases-tokens
decreases-tokens l = length l.rest
