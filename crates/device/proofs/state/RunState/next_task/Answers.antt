use Rattle.std.proofs.Common.{ℕ, Option, IfNone, sym, subst, arith}
use Rattle.base.specs.Items.{plan}
use Rattle.taskgraph.specs.Board.{HasNoTask, IsNextTask, plan_in, state_in}
use Rattle.taskgraph.proofs.NextTask.{next_there, none_there, task_inside}
use Rattle.device.specs.Run.{Run, state_of}
use Rattle.device.specs.Running.{run_of}
use Rattle.device.proofs.NextTasks.{graph_tasks, none_ended}
use Rattle.device.proofs.Starts.{as_many}
use Rattle.device.proofs.state.RunState.next_task.Goals as goal

pub returns-then-self-clause-none : goal.returns-then-self-clause-none
returns-then-self-clause-none c =
    subst (λ (r : Run). HasNoTask (plan r.program) (state_of r) c.args.from) c.self.view_is
    (none_ended (run_of c.self.inside) c.self.inside.standing c.args.from c.self.invariant c.if-self.true)

pub returns-clause-next : goal.returns-clause-next
returns-clause-next c =
    let r = run_of c.self.inside in
    let g = c.self.inside.standing.graph in
    subst (λ (r : Run). IsNextTask (plan r.program) (state_of r) c.args.from c.in_ok-item.item) c.self.view_is
    (next_there (plan_in g) (state_in g) (plan r.program) (state_of r) c.args.from c.in_ok-item.item
    (graph_tasks r c.self.inside.standing c.self.invariant c.if-self.false) c.in_ok-item.ensures.next)

pub returns-in_err-item-clause-none : goal.returns-in_err-item-clause-none
returns-in_err-item-clause-none c =
    let r = run_of c.self.inside in
    let g = c.self.inside.standing.graph in
    let none = none_there (plan_in g) (state_in g) (plan r.program) (state_of r) c.args.from
    (graph_tasks r c.self.inside.standing c.self.invariant c.if-self.false) c.in_err-item.ensures.none in
    subst (λ (o : Option ℕ). IfNone o (HasNoTask (plan c.args.self.now.program) (state_of c.args.self.now) c.args.from))
    (sym c.from_residual.ensures)
    (subst (λ (r : Run). HasNoTask (plan r.program) (state_of r) c.args.from) c.self.view_is none)

pub overflow_cast-result : goal.overflow_cast-result
overflow_cast-result c =
    let r = run_of c.self.inside in
    let g = c.self.inside.standing.graph in
    let next = next_there (plan_in g) (state_in g) (plan r.program) (state_of r) c.args.from c.in_ok-item.item
    (graph_tasks r c.self.inside.standing c.self.invariant c.if-self.false) c.in_ok-item.ensures.next in
    let inside = task_inside (plan r.program) (state_of r) c.in_ok-item.item next.task in
    let many = as_many _ c.items-items.result.now _ c.items-items.ensures.shown in
    let few = c.items-items.ensures.few in
    omega arith
