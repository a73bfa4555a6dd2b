use Rattle.std.proofs.Common.{◌≡◌, ◌+◌, ◌≤◌, length}
use Rattle.c_grammar.specs.Nesting.{is_last}
use Rattle.c_terminals.specs.Seen.{seen_all}
use Rattle.c_written.proofs.nesting.is_last.Given as goal

abbrev pub invariant-tokens : goal.invariant-tokens
invariant-tokens l = record {
  same : is_last l.depth (seen_all l.rest) ≡ is_last 0 (seen_all l.fn.tokens);
  few : l.depth + length l.rest ≤ length l.fn.tokens;
}

abbrev pub decreases-tokens : goal.decreases-tokens
decreases-tokens l = length l.rest
