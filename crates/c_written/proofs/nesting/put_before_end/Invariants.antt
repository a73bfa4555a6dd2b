use Rattle.std.proofs.Common.{◌≡◌, ◌++◌, length}
use Rattle.c_grammar.specs.Presence.{before_end}
use Rattle.c_written.specs.Forms.{all_placed}
use Rattle.c_written.proofs.nesting.put_before_end.Given as goal

abbrev pub invariant-tokens : goal.invariant-tokens
invariant-tokens l =
    all_placed l.put.items ++ before_end (all_placed l.others) (all_placed l.rest)
    ≡ all_placed l.fn.put.items ++ before_end (all_placed l.others) (all_placed l.tokens)

abbrev pub decreases-tokens : goal.decreases-tokens
decreases-tokens l = length l.rest
