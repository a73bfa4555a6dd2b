use Rattle.std.proofs.Common.{◌≡◌, length}
use Rattle.c_grammar.specs.Counters.{counted}
use Rattle.c_written.specs.Counters.{seen_found, with_counters}
use Rattle.c_terminals.specs.Seen.{seen_all}
use Rattle.c_written.proofs.counted.counted.Given as goal

abbrev pub invariant-tokens : goal.invariant-tokens
invariant-tokens l = with_counters (seen_found l.found) l.counters (seen_all l.rest) ≡ counted (seen_all l.fn.tokens)

abbrev pub decreases-tokens : goal.decreases-tokens
decreases-tokens l = length l.rest
