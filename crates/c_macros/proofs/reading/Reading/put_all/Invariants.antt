use Rattle.std.proofs.Common.{◌≡◌, length}
use Rattle.c_grammar.specs.Macros.{put_all}
use Rattle.c_macros.specs.Macros.{seen_reading}
use Rattle.c_terminals.specs.Seen.{seen_all}
use Rattle.c_macros.proofs.reading.Reading.put_all.Given as goal

abbrev pub invariant-tokens : goal.invariant-tokens
invariant-tokens l =
    put_all (seen_all l.rest) (seen_reading l.self) ≡ put_all (seen_all l.fn.tokens) (seen_reading l.fn.self)

abbrev pub decreases-tokens : goal.decreases-tokens
decreases-tokens l = length l.rest
