use Rattle.std.proofs.Common.{◌≡◌, ◌++◌, length}
use Rattle.c_grammar.specs.Boxes.{only}
use Rattle.c_written.specs.Boxes.{seen_found, texts}
use Rattle.c_written.proofs.boxes.only.Given as goal

abbrev pub invariant-names : goal.invariant-names
invariant-names l =
    texts l.boxes.items ++ only (seen_found l.found) (texts l.rest) ≡ only (seen_found l.found) (texts l.names)

abbrev pub decreases-names : goal.decreases-names
decreases-names l = length l.rest
