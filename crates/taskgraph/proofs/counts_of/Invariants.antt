use Rattle.std.proofs.Common.{◌≡◌, ◌<◌, ℕ, length, map}
use Rattle.std.specs.Prelude.{slice_index}
use Rattle.taskgraph.specs.Board.{task_facts, untouched}
use Rattle.taskgraph.specs.Waiting.{waits_for}
use Rattle.taskgraph.proofs.counts_of.Given as goal

abbrev pub invariant-items : goal.invariant-items
invariant-items l = record {
  long : length l.counts.items ≡ l.item;
  each : (j : ℕ) → j < l.item → slice_index l.counts.items j ≡ waits_for (untouched (map task_facts l.tasks)) l.starts j;
}
