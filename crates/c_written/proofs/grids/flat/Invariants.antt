use Rattle.std.proofs.Common.{◌≡◌, [], length}
use Rattle.c_grammar.specs.Grids.{flat}
use Rattle.c_written.specs.Grids.{with_grids}
use Rattle.c_terminals.specs.Seen.{seen_all}
use Rattle.c_written.proofs.grids.flat.Given as goal

abbrev pub invariant-tokens : goal.invariant-tokens
invariant-tokens l = with_grids l.deep l.grids (seen_all l.rest) ≡ flat l.deep [] [] [] 0 (seen_all l.fn.tokens)

abbrev pub decreases-tokens : goal.decreases-tokens
decreases-tokens l = length l.rest
