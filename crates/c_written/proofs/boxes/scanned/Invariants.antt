use Rattle.std.proofs.Common.{◌≡◌, false, length}
use Rattle.c_grammar.specs.Blocks.{bare}
use Rattle.c_grammar.specs.Boxes.{found, nothing_found}
use Rattle.c_terminals.specs.Ahead.{ahead}
use Rattle.c_written.specs.Boxes.{seen_found}
use Rattle.c_terminals.specs.Seen.{seen_all}
use Rattle.c_written.proofs.boxes.scanned.Given as goal

abbrev pub invariant-tokens : goal.invariant-tokens
invariant-tokens l =
    found l.depth l.bracket (seen_found l.found) (ahead l.ahead)
    ≡ found 0 false nothing_found (bare (seen_all l.tokens))

abbrev pub decreases-tokens : goal.decreases-tokens
decreases-tokens l = length (ahead l.ahead)
