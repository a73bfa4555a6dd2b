use Rattle.std.proofs.Common.{◌≡◌, ◌+◌, ◌≤◌, length}
use Rattle.c_grammar.specs.Sequences.{in_parts}
use Rattle.c_terminals.specs.Seen.{seen_all}
use Rattle.c_written.specs.Sequences.{opens_in, with_parts}
use Rattle.c_written.proofs.sequences.in_parts.Given as goal

abbrev pub invariant-tokens : goal.invariant-tokens
invariant-tokens l = record {
  same : with_parts l.done.items l.inside (seen_all l.rest) ≡ in_parts (seen_all l.fn.tokens);
  few : opens_in l.inside + length l.rest ≤ length l.fn.tokens;
}

abbrev pub decreases-tokens : goal.decreases-tokens
decreases-tokens l = length l.rest
