use Rattle.std.proofs.Common.{◌≡◌, ◌<◌, ◌+◌, ◌-◌, ℕ, List, Bool, Some, true, length, map, get_or, refl, sym, ap, subst, ◌∙◌, arith}
use Rattle.std.specs.Prelude.{slice_index}
use Rattle.std.specs.List.{slice_index_or, slice_set}
use Rattle.std.proofs.lemmas.List.{get_or-set_same, length-map}
use Rattle.std.proofs.lemmas.Option.{slice_get-get_or}
use Rattle.taskgraph.specs.declared.Stage.{Stage}
use Rattle.taskgraph.specs.declared.Stage.TheVariants as stage
use Rattle.taskgraph.specs.declared.Task.{Task}
use Rattle.taskgraph.specs.Board.{task_facts}
use Rattle.taskgraph.specs.Waiting.{AreFree, counted_in, is_free, one_if}
use Rattle.taskgraph.proofs.ClosedGraph.{facts_at}
use Rattle.taskgraph.proofs.FreeMarks.{count_set_mark}
use Rattle.taskgraph.proofs.Releases.{Loop, beyond, down, skip, begins}
use Rattle.taskgraph.proofs.release.Goals.{then-is_counted, else-is_counted}
use Rattle.taskgraph.proofs.release.Goals as goal

-- the marks after one more count is taken down
freed : (ts : List Task) (ss : List Stage) (ns : List ℕ) (marks new : List Bool) (j v : ℕ) (t : Task) (x : Bool) → j < length ns → j < length ts →
    t ≡ get_or ts j t → x ≡ is_free (task_facts t) (slice_index_or ss j stage.Untouched) (slice_index (slice_set ns j v) j) →
    AreFree (map task_facts ts) ss ns marks → new ≡ slice_set marks j x → AreFree (map task_facts ts) ss (slice_set ns j v) new
freed ts ss ns marks new j v t x lt inside is e h set =
    let facts = facts_at ts j t (slice_get-get_or ts j t inside ∙ ap (λ (x : Task). Some x) (sym is)) in
    let at = slice_index_or ss j stage.Untouched in
    let same : is_free (task_facts t) at v ≡ x = sym (e ∙ ap (is_free (task_facts t) at) (get_or-set_same ns j v 0 lt)) in
    subst (λ (l : List Bool). AreFree (map task_facts ts) ss (slice_set ns j v) l)
    (ap (slice_set marks j) same ∙ sym set)
    (count_set_mark (map task_facts ts) ss ns j v at (task_facts t) marks lt facts (omega (arith, inside, length-map ts task_facts)) refl h)

pub overflow_sub-missing : goal.overflow_sub-missing
overflow_sub-missing c =
    let ts = c.args.tasks.now in
    let j = c.later.later in
    let inside : j < length ts = omega (arith, c.later-test.true, c.requires.end) in
    let yes_it : counted_in ts c.args.starts.now c.args.item j ≡ true = sym c.is_counted.ensures ∙ c.if-is_counted.true in
    let one : one_if (counted_in ts c.args.starts.now c.args.item j) ≡ 1 = ap one_if yes_it in
    let now = c.later.invariant.counts.ahead j (omega arith) inside in
    let counted = c.requires.counted j inside in
    omega (arith, one, now, counted)

pub later-preserved : goal.later-preserved
later-preserved c =
    let ts = c.args.tasks.now in
    let ss = c.args.starts.now in
    let stages = c.args.stages.now in
    let old = c.args.missing.now in
    let now = c.later.missing in
    let marks = c.later.ready in
    let i = c.args.item in
    let j = c.later.later in
    let inside : j < length ts = omega (arith, c.later-test.true, c.requires.end) in
    elim c.if-is_counted.branch [
      | then-is_counted w ↦
          let here : counted_in ts ss i j ≡ true = sym c.is_counted.ensures ∙ w.if-is_counted.true in
          let one : one_if (counted_in ts ss i j) ≡ 1 = ap one_if here in
          let ahead = c.later.invariant.counts.ahead j (omega arith) inside in
          let counted = c.requires.counted j inside in
          let v = slice_index now j - 1 in
          let free = freed ts stages now marks w.insert_if.new.self j v w.index-tasks-later.result w.is_freed-freed.result
          (omega (arith, inside, c.later.invariant.counts.same)) inside w.index-tasks-later.is w.is_freed-freed.ensures
          c.later.invariant.ready w.insert_if.ensures in
          subst (λ (xs : List ℕ). record {
            counts : Loop ts ss i (j + 1) old xs;
            ready : AreFree (map task_facts ts) stages xs c.if-is_counted.ready;
          }) (sym w.missing-is)
          (record {
            counts = down ts ss i j old now c.later.invariant.counts inside here (omega (arith, one, ahead, counted));
            ready = subst (λ (l : List Bool). AreFree (map task_facts ts) stages (slice_set now j v) l) (sym w.ready-is) free;
          })
      | else-is_counted w ↦
          subst (λ (xs : List ℕ). record {
            counts : Loop ts ss i (j + 1) old xs;
            ready : AreFree (map task_facts ts) stages xs c.if-is_counted.ready;
          }) (sym w.missing-is)
          (record {
            counts = skip ts ss i j old now c.later.invariant.counts (sym c.is_counted.ensures ∙ w.if-is_counted.false);
            ready = subst (λ (l : List Bool). AreFree (map task_facts ts) stages now l) (sym w.ready-is) c.later.invariant.ready;
          })
    ]

pub later-init : goal.later-init
later-init c =
    record { counts = begins c.args.tasks.now c.args.starts.now c.args.item c.args.missing.now c.requires.same; ready = c.requires.ready }

pub returns : goal.returns
returns c = record {
  same = c.later.invariant.counts.same;
  taken = beyond c.args.tasks.now c.args.starts.now c.args.item c.args.end c.later.later c.args.missing.now c.later.missing
      c.later.invariant.counts c.requires.past c.later-test.false;
  ready = c.later.invariant.ready;
}
