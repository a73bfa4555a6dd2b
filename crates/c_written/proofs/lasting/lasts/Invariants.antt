use Rattle.std.proofs.Common.{◌≡◌, length}
use Rattle.c_grammar.specs.Lasting.{Elsewhere, lasts}
use Rattle.c_terminals.specs.Ahead.{ahead}
use Rattle.c_written.specs.Lasting.{seen_place}
use Rattle.c_written.proofs.lasting.lasts.Given as goal

abbrev pub invariant-tokens : goal.invariant-tokens
invariant-tokens l = lasts l.fn.name (seen_place l.place) l.found (ahead l.ahead) ≡ lasts l.fn.name Elsewhere l.fn.need_not (ahead l.fn.start)

abbrev pub decreases-tokens : goal.decreases-tokens
decreases-tokens l = length (ahead l.ahead)
