use Rattle.std.proofs.Common.{◌≡◌, ◌-◌, ◌+◌, length}
use Rattle.taskgraph.specs.Marks.{is_marked, those_from}
use Rattle.taskgraph.proofs.marks.marked_at.Given as goal

abbrev pub invariant-loop-item : goal.invariant-loop-item
invariant-loop-item l = l.left + length (those_from (is_marked l.marks) l.start (l.item - l.start)) ≡ l.fn.place
