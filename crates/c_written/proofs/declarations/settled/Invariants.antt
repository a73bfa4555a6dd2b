use Rattle.std.proofs.Common.{◌≡◌, ◌++◌, length}
use Rattle.c_grammar.specs.Declarations.{Other, settled}
use Rattle.c_written.specs.Declarations.{seen_before}
use Rattle.c_terminals.specs.Seen.{seen_all}
use Rattle.c_written.proofs.declarations.settled.Given as goal

abbrev pub invariant-tokens : goal.invariant-tokens
invariant-tokens l =
    seen_all l.done.items ++ settled (seen_before l.before) (seen_all l.rest) ≡ settled Other (seen_all l.fn.tokens)

abbrev pub decreases-tokens : goal.decreases-tokens
decreases-tokens l = length l.rest
