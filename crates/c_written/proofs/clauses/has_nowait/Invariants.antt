use Rattle.std.proofs.Common.{◌≡◌, length}
use Rattle.c_grammar.specs.Clauses.{has_nowait}
use Rattle.c_written.specs.Forms.{all_placed}
use Rattle.c_written.proofs.clauses.has_nowait.Given as goal

abbrev pub invariant-tokens : goal.invariant-tokens
invariant-tokens l = has_nowait (all_placed l.rest) ≡ has_nowait (all_placed l.fn.tokens)

abbrev pub decreases-tokens : goal.decreases-tokens
decreases-tokens l = length l.rest
