use Rattle.std.proofs.Common.{◌≤◌, ◌-◌}
use Rattle.bits.specs.Sets.{has, room, start}
use Rattle.ranges.proofs.TurnMarks.{Adds}
use Rattle.ranges.proofs.row_turns.mark_turns.Given as goal

abbrev pub invariant-loop-i : goal.invariant-loop-i
invariant-loop-i l = record {
  begins : start l.row ≤ l.cells.first;
  ahead : l.cells.first ≤ l.i;
  long : l.cells.end ≤ room l.row;
  adds : Adds (has l.fn.row) l.cells l.i (has l.row);
}

abbrev pub decreases-loop-i : goal.decreases-loop-i
decreases-loop-i l = l.cells.end - l.i
