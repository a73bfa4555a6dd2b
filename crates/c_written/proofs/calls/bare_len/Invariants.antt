use Rattle.std.proofs.Common.{◌≡◌, ◌+◌, ◌≤◌, drop, length}
use Rattle.c_grammar.specs.Blocks.{bare}
use Rattle.c_terminals.specs.Held.{written_all}
use Rattle.c_written.proofs.calls.bare_len.Given as goal

abbrev pub invariant-tokens : goal.invariant-tokens
invariant-tokens l = record {
  same : l.len + length (bare (written_all (drop l.written-index l.tokens))) ≡ length (bare (written_all l.tokens));
  few : l.len ≤ l.written-index;
}
