use Rattle.std.proofs.Common.{◌≡◌, length}
use Rattle.c_grammar.specs.Loops.{looped}
use Rattle.c_loops.specs.State.{with_loops}
use Rattle.c_terminals.specs.Seen.{seen_all}
use Rattle.c_loops.proofs.loops.looped.Given as goal

abbrev pub invariant-tokens : goal.invariant-tokens
invariant-tokens l = with_loops l.loops (seen_all l.rest) ≡ looped (seen_all l.fn.tokens)

abbrev pub decreases-tokens : goal.decreases-tokens
decreases-tokens l = length l.rest
