use Rattle.std.proofs.Common.{◌≡◌, take}
use Rattle.c_terminals.specs.Ahead.{ahead}
use Rattle.c_written.specs.CellUpdates.{rest_behind}
use Rattle.c_written.proofs.cell_updates.behind_same.Given as goal

abbrev pub invariant-tokens : goal.invariant-tokens
invariant-tokens l =
    rest_behind (take l.left (ahead l.index)) (ahead l.ahead) ≡ rest_behind (take l.fn.len (ahead l.fn.index)) (ahead l.fn.start)

abbrev pub decreases-tokens : goal.decreases-tokens
decreases-tokens l = l.left
