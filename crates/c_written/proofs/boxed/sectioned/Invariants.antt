use Rattle.std.proofs.Common.{◌≡◌, ◌++◌, length}
use Rattle.c_grammar.specs.Boxes.{at_begin, sectioned}
use Rattle.c_written.specs.Boxes.{seen_listing, texts}
use Rattle.c_written.specs.Forms.{all_placed}
use Rattle.c_written.proofs.boxed.sectioned.Given as goal

abbrev pub invariant-tokens : goal.invariant-tokens
invariant-tokens l =
    all_placed l.put.items ++ sectioned (texts l.names) (seen_listing l.listing) (all_placed l.rest)
    ≡ sectioned (texts l.names) at_begin (all_placed l.tokens)

abbrev pub decreases-tokens : goal.decreases-tokens
decreases-tokens l = length l.rest
