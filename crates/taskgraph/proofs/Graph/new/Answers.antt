use Rattle.std.proofs.Common.{◌≡◌, ℕ, List, Bool, false, length, map, replicate, refl, ap, sym, subst, ◌∙◌}
use Rattle.std.proofs.lemmas.List.{length-map}
use Rattle.base.specs.Machine.{is_open}
use Rattle.taskgraph.specs.declared.Stage.TheVariants as stage
use Rattle.taskgraph.specs.declared.Task.{Task}
use Rattle.taskgraph.specs.Waiting.{AreCounts, AreEnds, AreFree, AreMarks, AreStarts, AreUntouched, is_free_at, is_open_in, plan_for}
use Rattle.taskgraph.specs.Board.{condition_of, task_facts}
use Rattle.taskgraph.proofs.FreeMarks.{free_stage, marks_none}
use Rattle.taskgraph.proofs.Fresh.{fresh}
use Rattle.taskgraph.proofs.Graph.new.Goals as goal

pub invariant_of-result : goal.invariant_of-result
invariant_of-result c =
    let ts = c.in_ok-tasks.tasks.items in
    let ss = c.in_ok-stages.stages.items in
    let starts = c.in_ok-starts.starts.items in
    let ends = c.in_ok-ends.ends.items in
    let counts = c.in_ok-missing.missing.items in
    let long : c.len.result ≡ length ts = c.len.ensures ∙ c.in_ok-tasks.tasks.ok.0 in
    let none : AreUntouched (length ts) ss = subst (λ n. AreUntouched n ss) long c.in_ok-stages.ensures in
    let fs = map task_facts ts in
    let as_many = c.in_ok-tasks.tasks.ok.0 ∙ sym (length-map ts task_facts) in
    record {
      graph = fresh ts ss starts ends counts none
          (subst (λ (xs : List Task). AreStarts (plan_for xs) starts) c.deref.ensures.value c.in_ok-starts.ensures)
          (subst (λ (xs : List Task). AreEnds (plan_for xs) starts ends) c.deref-2.ensures.value
          (subst (λ (ns : List ℕ). AreEnds (plan_for c.deref-2.result.now) ns ends) c.deref-3.ensures.value c.in_ok-ends.ensures))
          (subst (λ (xs : List Task). AreCounts xs starts counts) c.deref-4.ensures.value
          (subst (λ (ns : List ℕ). AreCounts c.deref-4.result.now ns counts) c.deref-5.ensures.value c.in_ok-missing.ensures));
      opened = subst (λ (l : List Bool). AreMarks (length fs) (is_open_in (record { tasks = fs; stages = ss; place = 0 })) l)
          (sym (c.in_ok-open_items.ensures ∙ ap (λ n. replicate n false) (c.len-2.ensures ∙ as_many)))
          (marks_none (length fs) (is_open_in (record { tasks = fs; stages = ss; place = 0 }))
          (λ i. ap (λ st. is_open (condition_of st)) (none.1 i)));
      ready = subst (λ (l : List Bool). AreFree fs ss counts l)
          (sym (c.in_ok-ready_items.ensures ∙ ap (λ n. replicate n false) (c.len-3.ensures ∙ as_many)))
          (marks_none (length fs) (is_free_at fs ss counts) (λ i. free_stage fs ss counts i stage.Untouched (none.1 i) refl));
    }
