use Rattle.std.proofs.Common.{◌≡◌, ◌+◌, ◌≤◌, length}
use Rattle.c_grammar.specs.Locals.{index_in}
use Rattle.c_terminals.specs.Seen.{seen_all}
use Rattle.c_locals.specs.Indices.{rest_of}
use Rattle.c_locals.proofs.indices.index_in.Given as goal

abbrev pub invariant-tokens : goal.invariant-tokens
invariant-tokens l = record {
  value : rest_of l.reader l.len (seen_all l.rest) ≡ index_in (seen_all l.fn.tokens);
  within : l.len + length l.rest ≤ length l.fn.tokens;
}

abbrev pub decreases-tokens : goal.decreases-tokens
decreases-tokens l = length l.rest
