use Rattle.std.proofs.Common.{◌≡◌, ◌++◌, length, map}
use Rattle.c_grammar.specs.Lines.{worded}
use Rattle.directives.specs.Seen.{seen_placed}
use Rattle.directives.specs.Spells.{kinds_of}
use Rattle.c_read.specs.Boxes.{texts}
use Rattle.c_read.proofs.boxes.worded.Given as goal

abbrev pub invariant-tokens : goal.invariant-tokens
invariant-tokens l =
    texts l.names.items ++ worded (kinds_of (map seen_placed l.rest)) ≡ worded (kinds_of (map seen_placed l.tokens))

abbrev pub decreases-tokens : goal.decreases-tokens
decreases-tokens l = length l.rest
