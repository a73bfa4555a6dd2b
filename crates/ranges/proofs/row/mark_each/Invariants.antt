use Rattle.std.proofs.Common.{◌≡◌, ◌≤◌}
use Rattle.bits.specs.Sets.{has, room, start}
use Rattle.ranges.proofs.Marks.{marked_to}
use Rattle.ranges.proofs.row.mark_each.Given as goal

abbrev pub invariant-loop-i : goal.invariant-loop-i
invariant-loop-i l = record {
  begins : start l.row ≤ l.first;
  long : l.end ≤ room l.row;
  marked : has l.row ≡ marked_to (has l.fn.row) l.fn.cells.lo l.i l.end (has l.excluded);
}
