use Rattle.std.proofs.Common.{◌≡◌, ◌<◌, ℕ, false, List, Some, map, length, get_or, sym, ap, subst, ◌∙◌, arith}
use Rattle.std.specs.Prelude.{slice_get, slice_index, option_map, ◌&&◌, ◌||◌, ◌==◌}
use Rattle.std.proofs.lemmas.Bool.{eq-eqb, ne_eqb}
use Rattle.std.proofs.lemmas.Option.{slice_get-map, slice_get-get_or}
use Rattle.std.proofs.lemmas.List.{length-map, get_or_default}
use Rattle.std.proofs.lemmas.Grind.{common_steps, get_or_default_zero}
use Rattle.base.specs.declared.item.Event.TheVariants.{Open, Wait}
use Rattle.taskgraph.specs.declared.Task.{Task}
use Rattle.taskgraph.specs.declared.Stage.{Stage}
use Rattle.taskgraph.specs.declared.Stage.TheVariants as stage
use Rattle.taskgraph.specs.Board.{Board, task_facts, stage_at, allows}
use Rattle.taskgraph.specs.Waiting.{begins, waits_for}
use Rattle.taskgraph.proofs.Ready.{held}
use Rattle.taskgraph.proofs.Free.{bare_is, free_is}
use Rattle.taskgraph.proofs.Graph.ready.Goals as goal

facts_at : (ts : List Task) (i : ℕ) (t : Task) → i < length ts → t ≡ get_or ts i t →
    slice_get (map task_facts ts) i ≡ Some (task_facts t)
facts_at ts i t lt e =
    slice_get-map task_facts ts i
    ∙ ap (option_map task_facts) (slice_get-get_or ts i t lt ∙ ap (λ (t : Task). Some t) (sym e))

pub returns-then-index-gt0 : goal.returns-then-index-gt0
returns-then-index-gt0 c =
    let i = c.args.item in
    let starts = c.self.inside.starts.items in
    let ts = c.self.inside.tasks.items in
    let b : Board = record { tasks = map task_facts ts; stages = c.self.inside.stages.items; place = c.self.inside.place } in
    let lt : i < length (map task_facts ts) = omega (arith, c.if-item-len.false, length-map ts task_facts) in
    let same = get_or_default_zero c.self.inside.missing.items i c.index.result.now
    (omega (arith, lt, c.self.invariant.graph.counted.same)) in
    let count : slice_index c.self.inside.missing.items i ≡ waits_for b starts i = c.self.invariant.graph.counted.missing i lt in
    let some : 0 < waits_for b starts i = omega (arith, count, c.if-index-gt0.true, c.index.ensures, same) in
    subst (λ (x : Board). false ≡ (allows x (Open i) || allows x (Wait i))) c.self.view_is (held b starts i some)

pub returns : goal.returns
returns c =
    let i = c.args.item in
    let starts = c.self.inside.starts.items in
    let ts = c.self.inside.tasks.items in
    let b : Board = record { tasks = map task_facts ts; stages = c.self.inside.stages.items; place = c.self.inside.place } in
    let lt : i < length (map task_facts ts) = omega (arith, c.if-item-len.false, length-map ts task_facts) in
    let same = get_or_default_zero c.self.inside.missing.items i c.index.result.now
    (omega (arith, lt, c.self.invariant.graph.counted.same)) in
    let count : slice_index c.self.inside.missing.items i ≡ waits_for b starts i = c.self.invariant.graph.counted.missing i lt in
    let zero : waits_for b starts i ≡ 0 = omega (arith, count, c.if-index-gt0.false, c.index.ensures, same) in
    let short : i < length ts = omega (arith, lt, length-map ts task_facts) in
    let task : slice_get ts i ≡ Some c.index-task.result.now =
    slice_get-get_or ts i c.index-task.result.now short ∙ ap (λ (t : Task). Some t) (sym c.index-task.ensures) in
    let facts : slice_get (map task_facts ts) i ≡ Some (task_facts c.index-task.result.now) =
    slice_get-map task_facts ts i ∙ ap (option_map task_facts) task in
    let within : i < length c.self.inside.stages.items = omega (arith, lt, c.self.invariant.graph.counted.stages) in
    let stage : stage_at b i ≡ c.index-2.result.now =
    get_or_default c.self.inside.stages.items i stage.Untouched c.index-2.result.now within ∙ sym c.index-2.ensures in
    let answer : begins (task_facts c.index-task.result.now) c.index-2.result.now (b.place == i)
    ≡ (allows b (Open i) || allows b (Wait i)) =
    ap (λ (st : Stage). begins (task_facts c.index-task.result.now) st (b.place == i)) (sym stage)
    ∙ free_is b starts c.self.inside.ends.items c.self.inside.missing.items c.self.inside.first i (task_facts c.index-task.result.now) c.self.invariant.graph facts (sym c.is_bare.ensures ∙ c.if-is_bare.false) zero in
    c.may_begin.ensures
    ∙ subst (λ (x : Board). begins (task_facts c.index-task.result.now) c.index-2.result.now (b.place == i)
    ≡ (allows x (Open i) || allows x (Wait i))) c.self.view_is answer

pub returns-then-self-item : goal.returns-then-self-item
returns-then-self-item c =
    let i = c.args.item in
    let ts = c.self.inside.tasks.items in
    let b : Board = record { tasks = map task_facts ts; stages = c.self.inside.stages.items; place = c.self.inside.place } in
    let lt : i < length ts = omega (arith, c.if-item-len.false) in
    let facts = facts_at ts i c.index-task.result.now lt c.index-task.ensures in
    let answer = bare_is b c.self.inside.first i (task_facts c.index-task.result.now) c.self.invariant.graph.first facts
    (sym c.is_bare.ensures ∙ c.if-is_bare.true) in
    ap (λ x. x && (c.self.inside.first == i)) (sym (eq-eqb b.place i c.if-self-item.true))
    ∙ subst (λ (x : Board). ((b.place == i) && (c.self.inside.first == i)) ≡ (allows x (Open i) || allows x (Wait i)))
    c.self.view_is answer

pub returns-else-self-item : goal.returns-else-self-item
returns-else-self-item c =
    let i = c.args.item in
    let ts = c.self.inside.tasks.items in
    let b : Board = record { tasks = map task_facts ts; stages = c.self.inside.stages.items; place = c.self.inside.place } in
    let lt : i < length ts = omega (arith, c.if-item-len.false) in
    let facts = facts_at ts i c.index-task.result.now lt c.index-task.ensures in
    let answer = bare_is b c.self.inside.first i (task_facts c.index-task.result.now) c.self.invariant.graph.first facts
    (sym c.is_bare.ensures ∙ c.if-is_bare.true) in
    let away = ne_eqb b.place i c.if-self-item.false in
    away ∙ ap (λ x. x && (c.self.inside.first == i)) (sym away)
    ∙ subst (λ (x : Board). ((b.place == i) && (c.self.inside.first == i)) ≡ (allows x (Open i) || allows x (Wait i)))
    c.self.view_is answer

pub index-requires : goal.index-requires
index-requires c = grind (arith, common_steps)

pub index-requires-2 : goal.index-requires-2
index-requires-2 c = grind (arith, common_steps)
