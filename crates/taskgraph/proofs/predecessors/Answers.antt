use Rattle.std.proofs.Common.{◌≡◌, ◌<◌, Some, length, sym, ap, ◌∙◌, arith}
use Rattle.std.specs.Prelude.{slice_get}
use Rattle.std.proofs.lemmas.Option.{slice_get-get_or}
use Rattle.taskgraph.specs.declared.Task.{Task}
use Rattle.taskgraph.proofs.Pairs.{counted, passed}
use Rattle.taskgraph.proofs.predecessors.Goals.{then-is_predecessor, else-is_predecessor}
use Rattle.taskgraph.proofs.predecessors.Goals as goal

pub earlier-preserved : goal.earlier-preserved
earlier-preserved c =
    let ts = c.args.tasks.now in
    let k = c.earlier.earlier in
    let j = c.args.item in
    let t = c.index-tasks-earlier.result in
    let u = c.index-tasks-item.result in
    let j_in : j < length ts = c.requires.inside in
    let k_in : k < length ts = omega (arith, j_in, c.earlier-test.true) in
    let e : slice_get ts k ≡ Some t = slice_get-get_or ts k t k_in ∙ ap (λ (x : Task). Some x) (sym c.index-tasks-earlier.is) in
    let f : slice_get ts j ≡ Some u = slice_get-get_or ts j u j_in ∙ ap (λ (x : Task). Some x) (sym c.index-tasks-item.is) in
    elim c.if-is_predecessor.branch [
      | then-is_predecessor w ↦
          let one = counted ts c.args.start k j t u e f (omega (arith, c.earlier.auto.earlier)) c.earlier-test.true (sym c.is_predecessor.ensures ∙ w.if-is_predecessor.true) in
          record {
            count = omega (arith, one, w.count-is, c.earlier.invariant.count);
            small = omega (arith, w.count-is, c.earlier.invariant.small);
          }
      | else-is_predecessor w ↦
          let none = passed ts c.args.start k j t u e f (omega (arith, c.earlier.auto.earlier)) c.earlier-test.true (sym c.is_predecessor.ensures ∙ w.if-is_predecessor.false) in
          record {
            count = omega (arith, none, w.count-is, c.earlier.invariant.count);
            small = omega (arith, w.count-is, c.earlier.invariant.small);
          }
    ]
