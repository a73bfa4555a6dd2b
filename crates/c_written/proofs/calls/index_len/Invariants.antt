use Rattle.std.proofs.Common.{◌≡◌, ◌+◌, ◌≤◌, length}
use Rattle.c_grammar.specs.Functions.{index_len}
use Rattle.c_terminals.specs.Ahead.{ahead}
use Rattle.c_written.proofs.calls.index_len.Given as goal

abbrev pub invariant-tokens : goal.invariant-tokens
invariant-tokens l = record {
  same : index_len l.depth l.len (ahead l.ahead) ≡ index_len 0 0 (ahead l.fn.start);
  few : l.len + length (ahead l.ahead) ≤ length (ahead l.fn.start);
  deep : l.depth ≤ l.len;
}

abbrev pub decreases-tokens : goal.decreases-tokens
decreases-tokens l = length (ahead l.ahead)
