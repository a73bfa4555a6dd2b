use Rattle.std.proofs.Common.{◌≡◌, ◌+◌, ◌≤◌, length}
use Rattle.c_grammar.specs.Sequences.{holds}
use Rattle.c_terminals.specs.Seen.{seen, seen_all}
use Rattle.c_written.proofs.sequences.holds.Given as goal

abbrev pub invariant-tokens : goal.invariant-tokens
invariant-tokens l = record {
  same : holds (seen l.target).terminal l.depth (seen_all l.rest) ≡ holds (seen l.fn.target).terminal 0 (seen_all l.fn.tokens);
  target : l.target ≡ l.fn.target;
  few : l.depth + length l.rest ≤ length l.fn.tokens;
}

abbrev pub decreases-tokens : goal.decreases-tokens
decreases-tokens l = length l.rest
