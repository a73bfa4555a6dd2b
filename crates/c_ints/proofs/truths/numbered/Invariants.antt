use Rattle.std.proofs.Common.{◌≡◌, ◌++◌, length, true}
use Rattle.c_ints.specs.Ints.{numbered}
use Rattle.c_terminals.specs.Seen.{seen_all}
use Rattle.c_ints.proofs.truths.numbered.Given as goal

abbrev pub invariant-tokens : goal.invariant-tokens
invariant-tokens l =
    seen_all l.done.items ++ numbered l.free (seen_all l.rest) ≡ numbered true (seen_all l.fn.tokens)

abbrev pub decreases-tokens : goal.decreases-tokens
decreases-tokens l = length l.rest
