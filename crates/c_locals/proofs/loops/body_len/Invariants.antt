use Rattle.std.proofs.Common.{◌≡◌, ◌+◌, ◌≤◌, length}
use Rattle.c_grammar.specs.Locals.{body_len}
use Rattle.c_terminals.specs.Seen.{seen_all}
use Rattle.c_locals.proofs.loops.body_len.Given as goal

abbrev pub invariant-tokens : goal.invariant-tokens
invariant-tokens l = record {
  value : body_len l.depth l.len (seen_all l.rest) ≡ body_len 0 0 (seen_all l.fn.tokens);
  within : l.len + length l.rest ≤ length l.fn.tokens;
  depth : l.depth ≤ l.len;
}

abbrev pub decreases-tokens : goal.decreases-tokens
decreases-tokens l = length l.rest
