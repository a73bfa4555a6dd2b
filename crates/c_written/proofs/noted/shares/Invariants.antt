use Rattle.std.proofs.Common.{◌≡◌, length}
use Rattle.c_grammar.specs.Blocks.{bare}
use Rattle.c_grammar.specs.Privates.{shares}
use Rattle.c_terminals.specs.Seen.{seen_all}
use Rattle.c_written.specs.Boxes.{texts}
use Rattle.c_written.specs.Spots.{all_kinds}
use Rattle.c_written.proofs.noted.shares.Given as goal

abbrev pub invariant-names : goal.invariant-names
invariant-names l =
    shares (texts l.rest) (all_kinds l.tokens) (bare (seen_all l.region))
    ≡ shares (texts l.names) (all_kinds l.tokens) (bare (seen_all l.region))

abbrev pub decreases-names : goal.decreases-names
decreases-names l = length l.rest
