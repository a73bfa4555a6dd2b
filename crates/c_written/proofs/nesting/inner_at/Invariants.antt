use Rattle.std.proofs.Common.{◌≡◌, ◌++◌, length}
use Rattle.c_grammar.specs.Nesting.{inner_at}
use Rattle.c_written.specs.Forms.{all_placed}
use Rattle.c_written.proofs.nesting.inner_at.Given as goal

abbrev pub invariant-tokens : goal.invariant-tokens
invariant-tokens l =
    all_placed l.put.items ++ inner_at l.column (all_placed l.rest) ≡ inner_at l.column (all_placed l.tokens)

abbrev pub decreases-tokens : goal.decreases-tokens
decreases-tokens l = length l.rest
