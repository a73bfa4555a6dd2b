use Rattle.std.proofs.Common.{◌≡◌, false, ◌∙◌, subst, arith}
use Rattle.base.specs.Machine.{is_wait, on_item}
use Rattle.taskgraph.specs.Board.{Board, plan_in}
use Rattle.taskgraph.proofs.ClosedGraph.{asked}
use Rattle.taskgraph.proofs.Graph.is_wait.Goals as goal

pub returns : goal.returns
returns c =
    c.is_wait.ensures ∙ subst (λ (x : Board). is_wait c.index.result.now.kind ≡ on_item (plan_in x) c.args.item false (λ w. is_wait w.kind)) c.self.view_is
    (asked c.self.inside.tasks.items c.self.inside.stages.items c.self.inside.place c.args.item (λ w. is_wait w.kind) c.index.result.now
    (omega (arith, c.if-item-len.false)) c.index.ensures)
