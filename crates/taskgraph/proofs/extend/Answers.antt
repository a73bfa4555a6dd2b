use Rattle.std.proofs.Common.{◌≡◌, ◌<◌, ◌+◌, ℕ, List, length, Some, sym, ap, subst, ◌∙◌, arith}
use Rattle.std.specs.Prelude.{slice_get}
use Rattle.std.proofs.lemmas.Option.{slice_get-get_or}
use Rattle.base.specs.Machine.{precedes}
use Rattle.taskgraph.specs.declared.Task.{Task}
use Rattle.taskgraph.specs.Waiting.{plan_for}
use Rattle.taskgraph.proofs.Ends.{Loop, extended, first_step, noted, skipped}
use Rattle.taskgraph.proofs.Releases.{precedes_tasks}
use Rattle.taskgraph.proofs.extend.Goals.{then-is_predecessor, else-is_predecessor}
use Rattle.taskgraph.proofs.extend.Goals as goal

pub earlier-init : goal.earlier-init
earlier-init c = first_step c.args.tasks.now c.args.start c.args.item c.args.ends.now

pub earlier-preserved : goal.earlier-preserved
earlier-preserved c =
    let ts = c.args.tasks.now in
    let i = c.earlier.earlier in
    let j = c.args.item in
    let t = c.index-tasks-earlier.result in
    let u = c.index-tasks-item.result in
    let inside : i < length ts = omega (arith, c.requires.inside, c.earlier-test.true) in
    let f : slice_get ts i ≡ Some t = slice_get-get_or ts i t inside ∙ ap (λ (x : Task). Some x) (sym c.index-tasks-earlier.is) in
    let g : slice_get ts j ≡ Some u = slice_get-get_or ts j u c.requires.inside ∙ ap (λ (x : Task). Some x) (sym c.index-tasks-item.is) in
    let told : precedes (plan_for ts) i j ≡ c.is_predecessor.result =
    precedes_tasks ts i j t u f g c.earlier-test.true ∙ sym c.is_predecessor.ensures in
    elim c.if-is_predecessor.branch [
      | then-is_predecessor w ↦
          subst (λ (xs : List ℕ). Loop ts c.args.start j (i + 1) c.args.ends.now xs) (sym w.ends-is)
          (noted ts c.args.start j i c.args.ends.now c.earlier.ends c.earlier.invariant
          (omega (arith, inside, c.requires.same)))
      | else-is_predecessor w ↦
          subst (λ (xs : List ℕ). Loop ts c.args.start j (i + 1) c.args.ends.now xs) (sym w.ends-is)
          (skipped ts c.args.start j i c.args.ends.now c.earlier.ends c.earlier.invariant
          (told ∙ w.if-is_predecessor.false))
    ]

pub returns : goal.returns
returns c =
    extended c.args.tasks.now c.args.start c.args.item c.earlier.earlier c.args.ends.now c.earlier.ends c.earlier.invariant
    c.earlier-test.false
