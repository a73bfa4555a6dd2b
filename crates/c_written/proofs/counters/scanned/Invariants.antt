use Rattle.std.proofs.Common.{◌≡◌, length}
use Rattle.c_grammar.specs.Blocks.{bare}
use Rattle.c_grammar.specs.Counters.{Other, found, nothing_found}
use Rattle.c_terminals.specs.Ahead.{ahead}
use Rattle.c_written.specs.Counters.{seen_before, seen_found}
use Rattle.c_terminals.specs.Seen.{seen_all}
use Rattle.c_written.proofs.counters.scanned.Given as goal

abbrev pub invariant-tokens : goal.invariant-tokens
invariant-tokens l =
    found l.depth (seen_before l.before) (seen_found l.found) (ahead l.ahead)
    ≡ found 0 Other nothing_found (bare (seen_all l.tokens))

abbrev pub decreases-tokens : goal.decreases-tokens
decreases-tokens l = length (ahead l.ahead)
