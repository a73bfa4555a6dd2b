-- Which task may be opened next, of a run.
use Rattle.std.proofs.Common.{◌≡◌, ℕ, true, false}
use Rattle.base.specs.declared.item.Event.TheVariants as event
use Rattle.base.specs.Items.{plan}
use Rattle.taskgraph.specs.Board.{HasNoTask, plan_in, state_in}
use Rattle.taskgraph.proofs.NextTask.{AreTasks, deferred_there}
use Rattle.device.specs.Run.{Run, state_of}
use Rattle.device.specs.Running.{IsRunning}
use Rattle.device.specs.declared.standing.Standing.{Standing}
use Rattle.device.proofs.Reaching.{over, same_events}

-- before the end the graph has the tasks that may be opened
pub graph_tasks : (r : Run) (now : Standing) → IsRunning r now → now.ended ≡ false →
    AreTasks (plan_in now.graph) (state_in now.graph) (plan r.program) (state_of r)
graph_tasks r now h is =
    record {
      deferred = λ i. deferred_there (plan r.program) (record (state_of r) { place = now.graph.place }) now.graph i h.at.graph;
      opens = λ i. same_events r now h is (event.Open i);
    }

-- and after it there is none
pub none_ended : (r : Run) (now : Standing) (n : ℕ) → IsRunning r now → now.ended ≡ true → HasNoTask (plan r.program) (state_of r) n
none_ended r now n h is j le t = over r now h is (event.Open j) t.1
