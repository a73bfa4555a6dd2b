use Rattle.std.proofs.Common.{◌≡◌, length}
use Rattle.c_grammar.specs.Triangles.{rectangular}
use Rattle.c_terminals.specs.Seen.{seen_all}
use Rattle.c_triangles.specs.State.{with_loops}
use Rattle.c_triangles.proofs.triangles.rectangular.Given as goal

abbrev pub invariant-tokens : goal.invariant-tokens
invariant-tokens l = with_loops l.triangles (seen_all l.rest) ≡ rectangular (seen_all l.fn.tokens)

abbrev pub decreases-tokens : goal.decreases-tokens
decreases-tokens l = length l.rest
