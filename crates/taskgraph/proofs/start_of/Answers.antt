use Rattle.std.proofs.Common.{◌≡◌, ◌<◌, ◌+◌, ◌-◌, ℕ, List, true, length, get_or, Some, sym, ap, subst, ◌∙◌, arith}
use Rattle.std.specs.Prelude.{not, slice_get}
use Rattle.std.proofs.lemmas.Bool.{and_parts, not-true}
use Rattle.std.proofs.lemmas.Option.{slice_get-get_or}
use Rattle.base.specs.declared.item.Depend.{Depend}
use Rattle.base.specs.Machine.{precedes}
use Rattle.taskgraph.specs.declared.Task.{Task}
use Rattle.taskgraph.specs.Board.{task_facts, work_of}
use Rattle.taskgraph.specs.Cover.{covers}
use Rattle.taskgraph.specs.Waiting.{is_bare, plan_for}
use Rattle.taskgraph.proofs.Pairs.{work_at}
use Rattle.taskgraph.proofs.Releases.{precedes_tasks}
use Rattle.taskgraph.proofs.Starts.{IsScan, scan_past, start_all, start_barred, start_empty}
use Rattle.taskgraph.proofs.Passed.{start_covered}
use Rattle.taskgraph.proofs.start_of.Goals as goal

task_at : (ts : List Task) (i : ℕ) (t : Task) → i < length ts → t ≡ get_or ts i t → slice_get ts i ≡ Some t
task_at ts i t lt e = slice_get-get_or ts i t lt ∙ ap (λ (x : Task). Some x) (sym e)

pub returns-then-is_without : goal.returns-then-is_without
returns-then-is_without c =
    let ts = c.args.tasks.now in
    let u = c.index-tasks-item.result in
    start_empty (plan_for ts) c.args.item (work_of (task_facts u))
    (work_at ts c.args.item u (task_at ts c.args.item u c.requires c.index-tasks-item.is))
    (sym c.is_without.ensures ∙ c.if-is_without.true)

pub returns-then-is_barrier : goal.returns-then-is_barrier
returns-then-is_barrier c =
    let ts = c.args.tasks.now in
    let j = c.args.item in
    let w = c.earlier.earlier - 1 in
    let u = c.index-tasks-item.result in
    let v = c.index-tasks-earlier.result in
    let above = c.earlier.invariant.above in
    let small = c.earlier.invariant.small in
    let one : c.earlier.earlier ≡ w + 1 = omega (arith, c.earlier-test.true) in
    let inside : w < length ts = omega (arith, above, small, one, c.requires) in
    let p = and_parts (is_bare (work_of (task_facts v))) (not v.deferred) (sym c.is_barrier.ensures ∙ c.if-is_barrier.true) in
    start_barred (plan_for ts) j c.earlier.earlier w c.earlier.start (work_of (task_facts u)) (work_of (task_facts v))
    (work_at ts j u (task_at ts j u c.requires c.index-tasks-item.is))
    (sym c.is_without.ensures ∙ c.if-is_without.false) c.earlier.invariant one
    (work_at ts w v (task_at ts w v inside c.index-tasks-earlier.is)) p.0 (not-true v.deferred p.1)

pub returns-then-covers : goal.returns-then-covers
returns-then-covers c =
    let ts = c.args.tasks.now in
    let j = c.args.item in
    let w = c.earlier.earlier - 1 in
    let u = c.index-tasks-item.result in
    let v = c.index-tasks-earlier.result in
    let above = c.earlier.invariant.above in
    let small = c.earlier.invariant.small in
    let one : c.earlier.earlier ≡ w + 1 = omega (arith, c.earlier-test.true) in
    let before : w < j = omega (arith, above, small, one) in
    let at_j = task_at ts j u c.requires c.index-tasks-item.is in
    let at_w = task_at ts w v (omega (arith, before, c.requires)) c.index-tasks-earlier.is in
    let pair : precedes (plan_for ts) w j ≡ true =
    precedes_tasks ts w j v u at_w at_j before ∙ sym c.is_predecessor.ensures ∙ c.if-is_predecessor.true in
    let cover : covers v.depends.items u.depends.items ≡ true =
    subst (λ (ds : List Depend). covers v.depends.items ds ≡ true) c.deref-then-is_predecessor.ensures.value
    (subst (λ (es : List Depend). covers es c.deref-then-is_predecessor.result.now ≡ true) c.deref.ensures.value
    (sym c.covers.ensures ∙ c.if-covers.true)) in
    start_covered (plan_for ts) j c.earlier.earlier w c.earlier.start (work_of (task_facts u)) (work_of (task_facts v))
    (work_at ts j u at_j) (sym c.is_without.ensures ∙ c.if-is_without.false) c.earlier.invariant one (work_at ts w v at_w)
    pair cover

pub earlier-preserved : goal.earlier-preserved
earlier-preserved c =
    let ts = c.args.tasks.now in
    let j = c.args.item in
    let w = c.earlier.earlier - 1 in
    let u = c.index-tasks-item.result in
    let v = c.index-tasks-earlier.result in
    let above = c.earlier.invariant.above in
    let small = c.earlier.invariant.small in
    let one : c.earlier.earlier ≡ w + 1 = omega (arith, c.earlier-test.true) in
    let before : w < j = omega (arith, above, small, one) in
    let at_j = task_at ts j u c.requires c.index-tasks-item.is in
    let at_w = task_at ts w v (omega (arith, before, c.requires)) c.index-tasks-earlier.is in
    scan_past (plan_for ts) j c.earlier.earlier w c.earlier.start c.earlier.invariant one
    (precedes_tasks ts w j v u at_w at_j before ∙ sym c.is_predecessor.ensures ∙ c.if-is_predecessor.false)

pub returns : goal.returns
returns c =
    let ts = c.args.tasks.now in
    let j = c.args.item in
    let u = c.index-tasks-item.result in
    let none : c.earlier.earlier ≡ 0 = omega (arith, c.earlier-test.false) in
    start_all (plan_for ts) j c.earlier.start (work_of (task_facts u))
    (work_at ts j u (task_at ts j u c.requires c.index-tasks-item.is))
    (sym c.is_without.ensures ∙ c.if-is_without.false)
    (subst (λ n. IsScan (plan_for ts) j n c.earlier.start) none c.earlier.invariant)
