use Rattle.std.proofs.Common.{◌≡◌, length}
use Rattle.c_grammar.specs.Blocks.{bare}
use Rattle.c_grammar.specs.Types.{all_fine, nothing_left}
use Rattle.c_terminals.specs.Ahead.{ahead}
use Rattle.c_terminals.specs.Seen.{seen_all}
use Rattle.c_types.specs.Found.{seen_found}
use Rattle.c_types.specs.Places.{seen_left}
use Rattle.c_types.proofs.checks.all_fine.Given as goal

abbrev pub invariant-tokens : goal.invariant-tokens
invariant-tokens l =
    all_fine (seen_found l.found) (seen_left l.left) (ahead l.ahead)
    ≡ all_fine (seen_found l.found) nothing_left (bare (seen_all l.tokens))

abbrev pub decreases-tokens : goal.decreases-tokens
decreases-tokens l = length (ahead l.ahead)
