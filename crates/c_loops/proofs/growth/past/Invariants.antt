use Rattle.std.proofs.Common.{◌≡◌, drop}
use Rattle.c_terminals.specs.Ahead.{ahead}
use Rattle.c_loops.proofs.growth.past.Given as goal

abbrev pub invariant-tokens : goal.invariant-tokens
invariant-tokens l = drop l.left (ahead l.ahead) ≡ drop l.fn.count (ahead l.fn.start)

abbrev pub decreases-tokens : goal.decreases-tokens
decreases-tokens l = l.left
