use Rattle.std.proofs.Common.{◌≡◌, length}
use Rattle.c_grammar.specs.Nesting.{has}
use Rattle.c_written.specs.Spots.{all_kinds}
use Rattle.c_written.proofs.nesting.has.Given as goal

abbrev pub invariant-tokens : goal.invariant-tokens
invariant-tokens l = has l.word (all_kinds l.rest) ≡ has l.word (all_kinds l.tokens)

abbrev pub decreases-tokens : goal.decreases-tokens
decreases-tokens l = length l.rest
