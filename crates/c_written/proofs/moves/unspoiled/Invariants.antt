use Rattle.std.proofs.Common.{◌≡◌, ◌++◌, length}
use Rattle.c_grammar.specs.Blocks.{bare}
use Rattle.c_grammar.specs.Moves.{unspoiled}
use Rattle.c_terminals.specs.Seen.{seen_all}
use Rattle.c_written.specs.Boxes.{texts}
use Rattle.c_written.proofs.moves.unspoiled.Given as goal

abbrev pub invariant-names : goal.invariant-names
invariant-names l =
    texts l.moved.items ++ unspoiled (texts l.rest) (bare (seen_all l.tokens))
    ≡ unspoiled (texts l.names) (bare (seen_all l.tokens))

abbrev pub decreases-names : goal.decreases-names
decreases-names l = length l.rest
