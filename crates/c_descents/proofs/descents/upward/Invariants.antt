use Rattle.std.proofs.Common.{◌≡◌, length}
use Rattle.c_grammar.specs.Descents.{upward}
use Rattle.c_terminals.specs.Seen.{seen_all}
use Rattle.c_descents.specs.State.{with_descents}
use Rattle.c_descents.proofs.descents.upward.Given as goal

abbrev pub invariant-tokens : goal.invariant-tokens
invariant-tokens l = with_descents l.descents (seen_all l.rest) ≡ upward (seen_all l.fn.tokens)

abbrev pub decreases-tokens : goal.decreases-tokens
decreases-tokens l = length l.rest
