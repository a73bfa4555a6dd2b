use Rattle.std.proofs.Common.{◌≡◌, ◌+◌, ◌≤◌, length}
use Rattle.c_grammar.specs.DeclaredFunctions.{has_functions}
use Rattle.c_terminals.specs.Seen.{seen_all}
use Rattle.c_written.proofs.declared_functions.has_functions.Given as goal

abbrev pub invariant-tokens : goal.invariant-tokens
invariant-tokens l = record {
  same : has_functions l.depth (seen_all l.rest) ≡ has_functions 0 (seen_all l.fn.tokens);
  few : l.depth + length l.rest ≤ length l.fn.tokens;
}

abbrev pub decreases-tokens : goal.decreases-tokens
decreases-tokens l = length l.rest
