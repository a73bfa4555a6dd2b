use Rattle.std.proofs.Common.{◌≡◌, length}
use Rattle.c_grammar.specs.Boxes.{at_begin, listed}
use Rattle.c_written.specs.Boxes.{seen_listing, texts}
use Rattle.c_written.specs.Spots.{all_kinds}
use Rattle.c_written.proofs.box_lists.add_listed.Given as goal

abbrev pub invariant-tokens : goal.invariant-tokens
invariant-tokens l =
    listed (seen_listing l.listing) (all_kinds l.rest) (texts l.names.items)
    ≡ listed at_begin (all_kinds l.tokens) (texts l.fn.names.items)

abbrev pub decreases-tokens : goal.decreases-tokens
decreases-tokens l = length l.rest
