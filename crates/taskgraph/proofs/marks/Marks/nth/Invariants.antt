use Rattle.std.proofs.Common.{◌≡◌, ◌*◌, ◌+◌, length}
use Rattle.taskgraph.specs.Marks.{is_marked, those_from}
use Rattle.taskgraph.proofs.marks.Marks.nth.Given as goal

abbrev pub invariant-loop-row : goal.invariant-loop-row
invariant-loop-row l = l.left + length (those_from (is_marked l.self) 0 (256 * l.row)) ≡ l.place
