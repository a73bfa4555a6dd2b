use Rattle.std.proofs.Common.{◌≡◌, map, take}
use Rattle.taskgraph.specs.Board.{item_facts, task_facts}
use Rattle.taskgraph.proofs.tasks_of.Given as goal

abbrev pub invariant-items : goal.invariant-items
invariant-items l = map task_facts l.tasks.items ≡ map item_facts (take l.item-index l.items)
