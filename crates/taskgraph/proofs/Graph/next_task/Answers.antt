use Rattle.std.proofs.Common.{subst}
use Rattle.std.specs.Prelude.{IfNone, IfSome}
use Rattle.taskgraph.specs.Board.{Board, HasNoTask, IsNextTask, plan_in, state_in}
use Rattle.taskgraph.specs.Waiting.{board_of}
use Rattle.taskgraph.proofs.NextTask.{next_marked}
use Rattle.taskgraph.proofs.Graph.next_task.Goals as goal

pub returns-clause-next : goal.returns-clause-next
returns-clause-next c =
    let g = c.self.inside in
    subst (λ (b : Board). IfSome c.next.result (IsNextTask (plan_in b) (state_in b) c.args.from)) c.self.view_is
    (next_marked (board_of g.tasks.items g.stages.items g.place) g.starts.items g.ends.items g.missing.items g.first c.args.from
    c.max.result g.open_items g.ready_items c.next.result c.self.invariant c.max.ensures c.next.ensures).0

pub returns-clause-none : goal.returns-clause-none
returns-clause-none c =
    let g = c.self.inside in
    subst (λ (b : Board). IfNone c.next.result (HasNoTask (plan_in b) (state_in b) c.args.from)) c.self.view_is
    (next_marked (board_of g.tasks.items g.stages.items g.place) g.starts.items g.ends.items g.missing.items g.first c.args.from
    c.max.result g.open_items g.ready_items c.next.result c.self.invariant c.max.ensures c.next.ensures).1
