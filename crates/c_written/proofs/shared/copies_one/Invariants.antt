use Rattle.std.proofs.Common.{◌≡◌, length}
use Rattle.c_grammar.specs.Blocks.{bare}
use Rattle.c_grammar.specs.Shared.{copies_one}
use Rattle.c_terminals.specs.Seen.{seen_all}
use Rattle.c_written.specs.Boxes.{texts}
use Rattle.c_written.specs.Spots.{all_kinds}
use Rattle.c_written.proofs.shared.copies_one.Given as goal

abbrev pub invariant-names : goal.invariant-names
invariant-names l =
    copies_one (texts l.rest) (texts l.kept) (all_kinds l.line) (bare (seen_all l.tokens))
    ≡ copies_one (texts l.names) (texts l.kept) (all_kinds l.line) (bare (seen_all l.tokens))

abbrev pub decreases-names : goal.decreases-names
decreases-names l = length l.rest
