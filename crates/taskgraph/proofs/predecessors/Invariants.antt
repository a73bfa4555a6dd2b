use Rattle.std.proofs.Common.{◌≡◌, ◌≤◌, map}
use Rattle.taskgraph.specs.Board.{task_facts, untouched}
use Rattle.taskgraph.specs.Waiting.{held_by}
use Rattle.taskgraph.proofs.predecessors.Given as goal

abbrev pub invariant-earlier : goal.invariant-earlier
invariant-earlier l = record {
  count : l.count ≡ held_by (untouched (map task_facts l.tasks)) l.start l.item l.earlier;
  small : l.count ≤ l.earlier;
}
