use Rattle.std.proofs.Common.{◌≡◌, false, subst, arith}
use Rattle.base.specs.Machine.{on_item}
use Rattle.taskgraph.specs.Board.{Board, plan_in}
use Rattle.taskgraph.proofs.ClosedGraph.{asked}
use Rattle.taskgraph.proofs.Graph.is_deferred.Goals as goal

pub returns : goal.returns
returns c =
    subst (λ (x : Board). c.index.result.now.deferred ≡ on_item (plan_in x) c.args.item false (λ w. w.deferred)) c.self.view_is
    (asked c.self.inside.tasks.items c.self.inside.stages.items c.self.inside.place c.args.item (λ w. w.deferred) c.index.result.now
    (omega (arith, c.if-item-len.false)) c.index.ensures)
