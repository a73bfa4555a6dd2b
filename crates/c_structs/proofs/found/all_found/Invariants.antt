use Rattle.std.proofs.Common.{◌≡◌, length}
use Rattle.c_grammar.specs.Blocks.{bare}
use Rattle.c_grammar.specs.Structs.{found, nothing_found}
use Rattle.c_structs.specs.Found.{seen_found}
use Rattle.c_terminals.specs.Ahead.{ahead}
use Rattle.c_terminals.specs.Seen.{seen_all}
use Rattle.c_structs.proofs.found.all_found.Given as goal

abbrev pub invariant-tokens : goal.invariant-tokens
invariant-tokens l =
    found l.depth (seen_found l.found) (ahead l.ahead) ≡ found 0 nothing_found (bare (seen_all l.tokens))

abbrev pub decreases-tokens : goal.decreases-tokens
decreases-tokens l = length (ahead l.ahead)
