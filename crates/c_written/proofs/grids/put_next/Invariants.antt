use Rattle.std.proofs.Common.{◌≡◌, ◌++◌, take}
use Rattle.c_terminals.specs.Ahead.{ahead}
use Rattle.c_terminals.specs.Held.{written_all}
use Rattle.c_written.proofs.grids.put_next.Given as goal

abbrev pub invariant-tokens : goal.invariant-tokens
invariant-tokens l =
    written_all l.done.items ++ take l.left (ahead l.ahead)
    ≡ written_all l.fn.done.items ++ take l.fn.count (ahead l.fn.start)

abbrev pub decreases-tokens : goal.decreases-tokens
decreases-tokens l = l.left
