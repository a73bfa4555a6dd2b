use Rattle.std.proofs.Common.{◌≡◌, ◌++◌, length}
use Rattle.c_grammar.specs.Updates.{flat}
use Rattle.c_written.specs.Extremes.{all_seen}
use Rattle.c_terminals.specs.Seen.{seen_all}
use Rattle.c_written.proofs.extremes.flat.Given as goal

abbrev pub invariant-tokens : goal.invariant-tokens
invariant-tokens l = all_seen l.done.items ++ flat l.left (seen_all l.rest) ≡ flat 6 (seen_all l.fn.tokens)

abbrev pub decreases-tokens : goal.decreases-tokens
decreases-tokens l = length l.rest
