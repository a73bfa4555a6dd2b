use Rattle.std.proofs.Common.{◌≡◌, ◌<◌, ℕ, length}
use Rattle.std.specs.Prelude.{slice_index}
use Rattle.taskgraph.specs.Waiting.{IsStart, plan_for}
use Rattle.taskgraph.proofs.starts_of.Given as goal

abbrev pub invariant-items : goal.invariant-items
invariant-items l = record {
  long : length l.starts.items ≡ l.item;
  each : (j : ℕ) → j < l.item → IsStart (plan_for l.tasks) j (slice_index l.starts.items j);
}
