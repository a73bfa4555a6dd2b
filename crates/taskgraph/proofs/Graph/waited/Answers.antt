use Rattle.std.proofs.Common.{◌≡◌, ◌+◌, ◌≤◌, List, true, length, sym, ap, subst, ◌∙◌, arith}
use Rattle.std.specs.List.{slice_set}
use Rattle.std.proofs.lemmas.List.{length-map, length-set}
use Rattle.base.specs.declared.item.Event.TheVariants.{Wait}
use Rattle.taskgraph.specs.declared.Stage.{Stage}
use Rattle.taskgraph.specs.declared.Stage.TheVariants as stage
use Rattle.taskgraph.specs.declared.Task.{Task}
use Rattle.taskgraph.specs.Board.{Board, task_facts, allows}
use Rattle.taskgraph.specs.Waiting.{AreClosed, IsFirst, board_of}
use Rattle.taskgraph.proofs.Events.{passed_below}
use Rattle.taskgraph.proofs.FreeGraph.{passed_with}
use Rattle.taskgraph.proofs.Kept.{may_pass}
use Rattle.std.proofs.lemmas.Grind.{common_steps}
use Rattle.taskgraph.proofs.Graph.waited.Goals as goal

pub overflow_add-self : goal.overflow_add-self
overflow_add-self c =
    let b = board_of c.self.inside.tasks.items c.self.inside.stages.items c.self.inside.place in
    let asked : allows b (Wait c.args.item) ≡ true = subst (λ (x : Board). allows x (Wait c.args.item) ≡ true) (sym c.self.view_is) c.requires in
    let m = may_pass b c.args.item asked in
    omega (arith, m.here, m.inside, c.ranges.item.fits)

pub first_left-self-inside-requires-clause-inside : goal.first_left-self-inside-requires-clause-inside
first_left-self-inside-requires-clause-inside c =
    let ts = c.self.inside.tasks.items in
    let b = board_of ts c.self.inside.stages.items c.self.inside.place in
    let asked : allows b (Wait c.args.item) ≡ true = subst (λ (x : Board). allows x (Wait c.args.item) ≡ true) (sym c.self.view_is) c.requires in
    let m = may_pass b c.args.item asked in
    subst (λ (xs : List Task). c.self.inside.place + 1 ≤ length xs) (sym c.deref.ensures.value)
    (omega (arith, m.here, m.inside, length-map ts task_facts))

pub first_left-self-inside-requires-clause-same : goal.first_left-self-inside-requires-clause-same
first_left-self-inside-requires-clause-same c =
    let ts = c.self.inside.tasks.items in
    let ss = c.self.inside.stages.items in
    ap (λ (xs : List Stage). length xs) c.deref-2.ensures.value ∙ length-set ss c.args.item stage.Passed
    ∙ c.self.invariant.graph.counted.stages ∙ length-map ts task_facts
    ∙ sym (ap (λ (xs : List Task). length xs) c.deref.ensures.value)

pub first_left-self-inside-requires-clause-from : goal.first_left-self-inside-requires-clause-from
first_left-self-inside-requires-clause-from c =
    let h = c.self.invariant.graph.first.inside in omega (arith, h)

pub first_left-self-inside-requires-clause-below : goal.first_left-self-inside-requires-clause-below
first_left-self-inside-requires-clause-below c =
    let ts = c.self.inside.tasks.items in
    let ss = c.self.inside.stages.items in
    let p = c.self.inside.place in
    let b = board_of ts ss p in
    let asked : allows b (Wait c.args.item) ≡ true = subst (λ (x : Board). allows x (Wait c.args.item) ≡ true) (sym c.self.view_is) c.requires in
    subst (λ (xs : List Task). AreClosed (board_of xs c.deref-2.result.now (p + 1)) c.self.inside.first) (sym c.deref.ensures.value)
    (subst (λ (xs : List Stage). AreClosed (board_of ts xs (p + 1)) c.self.inside.first) (sym c.deref-2.ensures.value)
    (passed_below b c.self.inside.starts.items c.self.inside.ends.items c.self.inside.missing.items c.self.inside.first
    c.args.item c.self.invariant.graph asked))

pub invariant_of-self : goal.invariant_of-self
invariant_of-self c =
    let ts = c.self.inside.tasks.items in
    let ss = c.self.inside.stages.items in
    let p = c.self.inside.place in
    let b = board_of ts ss p in
    let asked : allows b (Wait c.args.item) ≡ true = subst (λ (x : Board). allows x (Wait c.args.item) ≡ true) (sym c.self.view_is) c.requires in
    passed_with b c.self.inside.starts.items c.self.inside.ends.items c.self.inside.missing.items c.self.inside.first
    c.first_left-self-inside.result c.args.item c.self.inside.open_items c.self.inside.ready_items c.self.invariant asked
    (subst (λ (xs : List Task). IsFirst (board_of xs (slice_set ss c.args.item stage.Passed) (p + 1)) c.first_left-self-inside.result)
    c.deref.ensures.value
    (subst (λ (xs : List Stage). IsFirst (board_of c.deref.result.now xs (p + 1)) c.first_left-self-inside.result)
    c.deref-2.ensures.value c.first_left-self-inside.ensures))

pub returns : goal.returns
returns c = grind (arith, common_steps)
