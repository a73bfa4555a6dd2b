use Rattle.std.proofs.Common.{sym, ap, ◌∙◌, arith}
use Rattle.std.specs.Prelude.{◌&&◌, not}
use Rattle.taskgraph.specs.Waiting.{board_of}
use Rattle.taskgraph.proofs.ClosedGraph.{asked}
use Rattle.taskgraph.proofs.Counts.{closed_in}
use Rattle.taskgraph.proofs.Ordered.{one_closed}
use Rattle.taskgraph.proofs.first_left.Goals as goal

pub returns-then-is_left : goal.returns-then-is_left
returns-then-is_left c =
    let b = board_of c.args.tasks.now c.args.stages.now c.args.place in
    let i = c.left.item in
    let d = asked c.args.tasks.now c.args.stages.now c.args.place i (λ w. w.deferred) c.index-tasks-item.result
    (omega (arith, c.left-test.true, c.requires.inside)) c.index-tasks-item.is in
    record {
      inside = omega (arith, c.left-test.true);
      below = c.left.invariant;
      left = λ _. ap (λ x. x && not (closed_in b i)) (sym d) ∙ sym c.is_left.ensures ∙ c.if-is_left.true;
    }

pub left-preserved : goal.left-preserved
left-preserved c =
    let b = board_of c.args.tasks.now c.args.stages.now c.args.place in
    let i = c.left.item in
    let d = asked c.args.tasks.now c.args.stages.now c.args.place i (λ w. w.deferred) c.index-tasks-item.result
    (omega (arith, c.left-test.true, c.requires.inside)) c.index-tasks-item.is in
    one_closed b i c.left.invariant
    (ap (λ x. x && not (closed_in b i)) (sym d) ∙ sym c.is_left.ensures ∙ c.if-is_left.false)

pub returns : goal.returns
returns c = record {
  inside = omega arith;
  below = λ i lt d. c.left.invariant i (omega (arith, lt, c.left-test.false)) d;
  left = λ lt. absurd (omega (arith, lt));
}
