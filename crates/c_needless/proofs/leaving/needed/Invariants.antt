use Rattle.std.proofs.Common.{◌≡◌, length}
use Rattle.c_grammar.specs.Needless.{needed}
use Rattle.c_terminals.specs.Seen.{seen_all}
use Rattle.c_needless.specs.States.{with_rest}
use Rattle.c_needless.proofs.leaving.needed.Given as goal

abbrev pub invariant-tokens : goal.invariant-tokens
invariant-tokens l = with_rest l.leaving (seen_all l.rest) ≡ needed (seen_all l.fn.tokens)

abbrev pub decreases-tokens : goal.decreases-tokens
decreases-tokens l = length l.rest
