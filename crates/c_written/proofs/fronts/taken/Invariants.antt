use Rattle.std.proofs.Common.{◌≡◌, ◌++◌, take}
use Rattle.c_terminals.specs.Ahead.{ahead}
use Rattle.c_terminals.specs.Seen.{seen_all}
use Rattle.c_written.proofs.fronts.taken.Given as goal

abbrev pub invariant-tokens : goal.invariant-tokens
invariant-tokens l = seen_all l.done.items ++ take l.left (ahead l.ahead) ≡ take l.count (ahead l.fn.start)

abbrev pub decreases-tokens : goal.decreases-tokens
decreases-tokens l = l.left
