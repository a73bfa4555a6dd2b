use Rattle.std.proofs.Common.{◌≡◌, ◌+◌, ◌≤◌, ◌++◌, length}
use Rattle.std.specs.Prelude.{false}
use Rattle.c_grammar.specs.Sequences.{of_data}
use Rattle.c_written.specs.Forms.{all_placed}
use Rattle.c_written.proofs.sequences.put_of_data.Given as goal

abbrev pub invariant-tokens : goal.invariant-tokens
invariant-tokens l = record {
  same :
      all_placed l.put.items ++ of_data l.stays l.depth (all_placed l.rest)
      ≡ all_placed l.fn.put.items ++ of_data false 0 (all_placed l.fn.tokens);
  few : l.depth + length l.rest ≤ length l.fn.tokens;
}

abbrev pub decreases-tokens : goal.decreases-tokens
decreases-tokens l = length l.rest
