use Rattle.std.proofs.Common.{◌≡◌, ◌++◌, length}
use Rattle.c_grammar.specs.Shared.{unshared}
use Rattle.c_terminals.specs.Held.{written_all}
use Rattle.c_terminals.specs.Seen.{seen_all}
use Rattle.c_written.proofs.shared.unshared.Given as goal

abbrev pub invariant-tokens : goal.invariant-tokens
invariant-tokens l = written_all l.done.items ++ unshared (seen_all l.rest) ≡ unshared (seen_all l.fn.tokens)

abbrev pub decreases-tokens : goal.decreases-tokens
decreases-tokens l = length l.rest
