use Rattle.std.proofs.Common.{◌≡◌, ◌≤◌, false, true, length}
use Rattle.c_grammar.specs.Loops.{grows, seen_at}
use Rattle.c_loops.specs.Growing.{seen_within}
use Rattle.c_loops.specs.Limits.{seen_limit}
use Rattle.c_terminals.specs.Ahead.{ahead}
use Rattle.c_loops.proofs.growth.grows.Given as goal

abbrev pub invariant-tokens : goal.invariant-tokens
invariant-tokens l =
    (grows (seen_limit l.fn.limit) (seen_within l.within) l.within.left (ahead l.ahead) ≡
    grows (seen_limit l.fn.limit) (seen_at 0 true false) 0 (ahead l.fn.start)) × (l.within.depth ≤ 16)

abbrev pub decreases-tokens : goal.decreases-tokens
decreases-tokens l = length (ahead l.ahead)
