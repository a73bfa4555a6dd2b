use Rattle.std.proofs.Common.{◌≡◌, length}
use Rattle.c_grammar.specs.Blocks.{bare}
use Rattle.c_grammar.specs.Shared.{uses_one}
use Rattle.c_terminals.specs.Seen.{seen_all}
use Rattle.c_written.specs.Boxes.{texts}
use Rattle.c_written.proofs.shared.uses_one.Given as goal

abbrev pub invariant-names : goal.invariant-names
invariant-names l =
    uses_one (texts l.rest) (bare (seen_all l.tokens)) ≡ uses_one (texts l.names) (bare (seen_all l.tokens))

abbrev pub decreases-names : goal.decreases-names
decreases-names l = length l.rest
