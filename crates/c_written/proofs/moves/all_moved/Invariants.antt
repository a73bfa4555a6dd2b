use Rattle.std.proofs.Common.{◌≡◌, length}
use Rattle.c_grammar.specs.Moves.{all_moved}
use Rattle.c_terminals.specs.Seen.{seen_all}
use Rattle.c_written.specs.Boxes.{texts}
use Rattle.c_written.proofs.moves.all_moved.Given as goal

abbrev pub invariant-names : goal.invariant-names
invariant-names l = all_moved (texts l.rest) (seen_all l.done.items) ≡ all_moved (texts l.names) (seen_all l.tokens)

abbrev pub decreases-names : goal.decreases-names
decreases-names l = length l.rest
