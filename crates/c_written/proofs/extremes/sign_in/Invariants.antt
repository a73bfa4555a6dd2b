use Rattle.std.proofs.Common.{◌≡◌, ◌+◌, ◌≤◌, length}
use Rattle.c_grammar.specs.Updates.{sign_in}
use Rattle.c_written.specs.Extremes.{all_seen}
use Rattle.c_written.proofs.extremes.sign_in.Given as goal

abbrev pub invariant-tokens : goal.invariant-tokens
invariant-tokens l = record {
  same : sign_in l.sign l.len (all_seen l.rest) ≡ sign_in l.sign 0 (all_seen l.fn.tokens);
  few : l.len + length l.rest ≤ length l.fn.tokens;
}

abbrev pub decreases-tokens : goal.decreases-tokens
decreases-tokens l = length l.rest
