use Rattle.std.proofs.Common.{◌≡◌, ◌++◌, length}
use Rattle.c_grammar.specs.Unset.{zeroed, zeroed_in}
use Rattle.c_written.specs.Counters.{seen_before}
use Rattle.c_terminals.specs.Seen.{seen_all}
use Rattle.c_written.proofs.unset.zeroed.Given as goal

abbrev pub invariant-tokens : goal.invariant-tokens
invariant-tokens l =
    seen_all l.done.items ++ zeroed_in l.depth (seen_before l.before) (seen_all l.rest) ≡ zeroed (seen_all l.fn.tokens)

abbrev pub decreases-tokens : goal.decreases-tokens
decreases-tokens l = length l.rest
