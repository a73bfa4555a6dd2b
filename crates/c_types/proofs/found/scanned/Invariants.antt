use Rattle.std.proofs.Common.{◌≡◌, length}
use Rattle.c_grammar.specs.Blocks.{bare}
use Rattle.c_grammar.specs.Types.{found, found_from}
use Rattle.c_terminals.specs.Ahead.{ahead}
use Rattle.c_terminals.specs.Seen.{seen_all}
use Rattle.c_types.specs.States.{seen_state}
use Rattle.c_types.specs.Found.{seen_found}
use Rattle.c_types.proofs.found.scanned.Given as goal

abbrev pub invariant-tokens : goal.invariant-tokens
invariant-tokens l =
    found_from (seen_state l.state) (seen_found l.found) (ahead l.ahead) ≡ found (bare (seen_all l.tokens))

abbrev pub decreases-tokens : goal.decreases-tokens
decreases-tokens l = length (ahead l.ahead)
