use Rattle.std.proofs.Common.{◌≡◌, length}
use Rattle.c_grammar.specs.Blocks.{bare}
use Rattle.c_grammar.specs.Pointers.{begin, found, nothing_found}
use Rattle.c_terminals.specs.Ahead.{ahead}
use Rattle.c_written.specs.Pointers.{seen_found, seen_place}
use Rattle.c_terminals.specs.Seen.{seen_all}
use Rattle.c_written.proofs.pointers.scanned.Given as goal

abbrev pub invariant-tokens : goal.invariant-tokens
invariant-tokens l =
    found (seen_place l.place) (seen_found l.found) (ahead l.ahead) ≡ found begin nothing_found (bare (seen_all l.tokens))

abbrev pub decreases-tokens : goal.decreases-tokens
decreases-tokens l = length (ahead l.ahead)
