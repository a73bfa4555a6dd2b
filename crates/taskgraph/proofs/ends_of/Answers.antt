use Rattle.std.proofs.Common.{arith, ◌≡◌, ◌+◌, ℕ, List, length, sym, ap, ◌∙◌, subst}
use Rattle.std.specs.Prelude.{slice_index}
use Rattle.taskgraph.specs.Waiting.{AreEndsTo, IsExtended, plan_for}
use Rattle.taskgraph.proofs.ClosedGraph.{written_back}
use Rattle.taskgraph.proofs.Ends.{one_more}
use Rattle.std.proofs.lemmas.Grind.{common_steps}
use Rattle.taskgraph.proofs.ends_of.Goals as goal

pub items-preserved : goal.items-preserved
items-preserved c =
    let plan = plan_for c.args.tasks.now in
    let starts = c.args.starts.now in
    let n = c.items.item in
    let old = c.items.ends.items in
    let now = c.extend.new.ends in
    let long : length now ≡ length old =
    c.extend.ensures.same ∙ ap (λ (xs : List ℕ). length xs) c.deref_mut.ensures.value in
    let noted = subst (λ (xs : List ℕ). IsExtended plan (slice_index starts n) n xs now) c.deref_mut.ensures.value c.extend.ensures in
    subst (λ (xs : List ℕ). AreEndsTo plan starts xs (n + 1)) (sym (written_back now old c.items.ends.len c.items.ends.ok.0 long))
    (one_more plan starts old now n c.items.invariant noted)

pub items-init : goal.items-init
items-init c = grind (arith, common_steps)
