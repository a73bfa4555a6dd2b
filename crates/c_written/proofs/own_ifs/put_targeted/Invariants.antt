use Rattle.std.proofs.Common.{◌≡◌, ◌+◌, ◌≤◌, ◌++◌, length}
use Rattle.std.specs.Prelude.{false}
use Rattle.c_grammar.specs.Nesting.{targeted}
use Rattle.c_written.specs.Forms.{all_placed}
use Rattle.c_written.proofs.own_ifs.put_targeted.Given as goal

abbrev pub invariant-tokens : goal.invariant-tokens
invariant-tokens l = record {
  same : all_placed l.put.items ++ targeted l.conditional l.depth (all_placed l.rest)
      ≡ all_placed l.fn.put.items ++ targeted false 0 (all_placed l.tokens);
  few : l.depth + length l.rest ≤ length l.tokens;
}

abbrev pub decreases-tokens : goal.decreases-tokens
decreases-tokens l = length l.rest
