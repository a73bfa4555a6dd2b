use Rattle.std.proofs.Common.{◌≡◌, ◌+◌, ◌<◌, ◌≤◌, ℕ, List, Bool, false, true, ◌++◌, take, drop, length, map, Some, sym, ap, subst, ◌∙◌, arith}
use Rattle.std.specs.Prelude.{slice_get, slice_index}
use Rattle.std.specs.List.{slice_set}
use Rattle.std.proofs.lemmas.List.{length-map, length-set}
use Rattle.std.proofs.lemmas.Grind.{get_or_default_zero}
use Rattle.std.proofs.lemmas.Option.{slice_get-get_or}
use Rattle.base.specs.declared.item.Event.TheVariants.{Close}
use Rattle.taskgraph.specs.declared.Task.{Task}
use Rattle.taskgraph.specs.declared.Stage.{Stage}
use Rattle.taskgraph.specs.declared.Stage.TheVariants as stage
use Rattle.taskgraph.specs.Board.{Board, Stands, allows, task_facts, work_of}
use Rattle.taskgraph.specs.Waiting.{AreClosed, IsFirst, IsGraphWith, AreFree, board_of, counted_in, one_if}
use Rattle.taskgraph.proofs.Events.{closed_below}
use Rattle.taskgraph.proofs.ClosedGraph.{as_many, in_counts, host_with, task_with, host_follows, task_follows, host_here, written_back}
use Rattle.taskgraph.proofs.FreeGraph.{closed_free, is_opened}
use Rattle.taskgraph.proofs.Kept.{may_close}
use Rattle.taskgraph.proofs.Graph.closed.Goals as goal

pub index_mut-requires : goal.index_mut-requires
index_mut-requires c =
    let i = c.args.item in
    let ts = c.self.inside.tasks.items in
    let ss = c.self.inside.stages.items in
    let p = c.self.inside.place in
    let asked : allows (board_of ts ss p) (Close i) ≡ true =
    subst (λ (x : Board). allows x (Close i) ≡ true) (sym c.self.view_is) c.requires in
    let m = may_close (board_of ts ss p) i asked in
    let many = as_many ts ss p c.self.inside.starts.items c.self.inside.ends.items c.self.inside.missing.items c.self.inside.first c.self.invariant.graph in
    omega (arith, m.inside, length-map ts task_facts, many.stages)

pub index-requires : goal.index-requires
index-requires c =
    let i = c.args.item in
    let ts = c.self.inside.tasks.items in
    let ss = c.self.inside.stages.items in
    let p = c.self.inside.place in
    let asked : allows (board_of ts ss p) (Close i) ≡ true =
    subst (λ (x : Board). allows x (Close i) ≡ true) (sym c.self.view_is) c.requires in
    let m = may_close (board_of ts ss p) i asked in
    omega (arith, m.inside, length-map ts task_facts)

pub index-end-requires : goal.index-end-requires
index-end-requires c =
    let i = c.args.item in
    let ts = c.self.inside.tasks.items in
    let ss = c.self.inside.stages.items in
    let p = c.self.inside.place in
    let asked : allows (board_of ts ss p) (Close i) ≡ true =
    subst (λ (x : Board). allows x (Close i) ≡ true) (sym c.self.view_is) c.requires in
    let m = may_close (board_of ts ss p) i asked in
    let many = as_many ts ss p c.self.inside.starts.items c.self.inside.ends.items c.self.inside.missing.items c.self.inside.first c.self.invariant.graph in
    omega (arith, m.inside, length-map ts task_facts, many.ends)

pub release-requires-clause-inside : goal.release-requires-clause-inside
release-requires-clause-inside c =
    let i = c.args.item in
    let ts = c.self.inside.tasks.items in
    let ss = c.self.inside.stages.items in
    let p = c.self.inside.place in
    let asked : allows (board_of ts ss p) (Close i) ≡ true =
    subst (λ (x : Board). allows x (Close i) ≡ true) (sym c.self.view_is) c.requires in
    let m = may_close (board_of ts ss p) i asked in
    subst (λ (xs : List Task). i < length xs) (sym c.deref.ensures.value) (omega (arith, m.inside, length-map ts task_facts))

pub release-requires-clause-starts : goal.release-requires-clause-starts
release-requires-clause-starts c =
    let ts = c.self.inside.tasks.items in
    let ss = c.self.inside.stages.items in
    let many = as_many ts ss c.self.inside.place c.self.inside.starts.items c.self.inside.ends.items c.self.inside.missing.items c.self.inside.first c.self.invariant.graph in
    ap (λ (xs : List ℕ). length xs) c.deref-then-index.ensures.value ∙ many.starts
    ∙ sym (ap (λ (xs : List Task). length xs) c.deref.ensures.value)

pub release-requires-clause-stages : goal.release-requires-clause-stages
release-requires-clause-stages c =
    let ts = c.self.inside.tasks.items in
    let ss = c.self.inside.stages.items in
    let many = as_many ts ss c.self.inside.place c.self.inside.starts.items c.self.inside.ends.items c.self.inside.missing.items c.self.inside.first c.self.invariant.graph in
    ap (λ (xs : List Stage). length xs) c.deref-then-index-2.ensures.value ∙ length-set ss c.args.item stage.Closed ∙ many.stages
    ∙ sym (ap (λ (xs : List Task). length xs) c.deref.ensures.value)

pub release-requires-clause-same : goal.release-requires-clause-same
release-requires-clause-same c =
    let ts = c.self.inside.tasks.items in
    let ss = c.self.inside.stages.items in
    let many = as_many ts ss c.self.inside.place c.self.inside.starts.items c.self.inside.ends.items c.self.inside.missing.items c.self.inside.first c.self.invariant.graph in
    ap (λ (xs : List ℕ). length xs) c.deref_mut.ensures.value ∙ many.counts
    ∙ sym (ap (λ (xs : List Task). length xs) c.deref.ensures.value)

pub first_left-self-inside-requires-clause-same : goal.first_left-self-inside-requires-clause-same
first_left-self-inside-requires-clause-same c =
    let ts = c.self.inside.tasks.items in
    let ss = c.self.inside.stages.items in
    let many = as_many ts ss c.self.inside.place c.self.inside.starts.items c.self.inside.ends.items c.self.inside.missing.items c.self.inside.first c.self.invariant.graph in
    ap (λ (xs : List Stage). length xs) c.deref-then-index-4.ensures.value ∙ length-set ss c.args.item stage.Closed ∙ many.stages
    ∙ sym (ap (λ (xs : List Task). length xs) c.deref-then-index-3.ensures.value)

pub first_left-self-inside-requires-2-clause-same : goal.first_left-self-inside-requires-2-clause-same
first_left-self-inside-requires-2-clause-same c =
    let ts = c.self.inside.tasks.items in
    let ss = c.self.inside.stages.items in
    let many = as_many ts ss c.self.inside.place c.self.inside.starts.items c.self.inside.ends.items c.self.inside.missing.items c.self.inside.first c.self.invariant.graph in
    ap (λ (xs : List Stage). length xs) c.deref-3.ensures.value ∙ length-set ss c.args.item stage.Closed ∙ many.stages
    ∙ sym (ap (λ (xs : List Task). length xs) c.deref-2.ensures.value)

pub release-requires-clause-counted : goal.release-requires-clause-counted
release-requires-clause-counted c =
    let i = c.args.item in
    let ts = c.self.inside.tasks.items in
    let ss = c.self.inside.stages.items in
    let p = c.self.inside.place in
    let starts = c.self.inside.starts.items in
    let asked : allows (board_of ts ss p) (Close i) ≡ true =
    subst (λ (x : Board). allows x (Close i) ≡ true) (sym c.self.view_is) c.requires in
    let all = in_counts ts ss p starts c.self.inside.missing.items i c.self.invariant.graph.counted asked in
    subst (λ (xs : List Task). (j : ℕ) → j < length xs →
    one_if (counted_in xs c.deref-then-index.result.now i j) ≤ slice_index c.deref_mut.result.now j) (sym c.deref.ensures.value)
    (subst (λ (ns : List ℕ). (j : ℕ) → j < length ts → one_if (counted_in ts ns i j) ≤ slice_index c.deref_mut.result.now j)
    (sym c.deref-then-index.ensures.value)
    (subst (λ (ns : List ℕ). (j : ℕ) → j < length ts → one_if (counted_in ts starts i j) ≤ slice_index ns j)
    (sym c.deref_mut.ensures.value) all))

pub release-requires-clause-past : goal.release-requires-clause-past
release-requires-clause-past c =
    let i = c.args.item in
    let ts = c.self.inside.tasks.items in
    let ss = c.self.inside.stages.items in
    let p = c.self.inside.place in
    let asked : allows (board_of ts ss p) (Close i) ≡ true =
    subst (λ (x : Board). allows x (Close i) ≡ true) (sym c.self.view_is) c.requires in
    let m = may_close (board_of ts ss p) i asked in
    let lt : i < length ts = omega (arith, m.inside, length-map ts task_facts) in
    let es = c.self.inside.ends.items in
    let within : i < length es = omega (arith, lt, c.self.invariant.graph.ends.same, length-map ts task_facts, length-map (map task_facts ts) work_of) in
    let end : slice_index es i ≡ c.index-end.result.now =
    sym (get_or_default_zero es i c.index-end.result.now within) ∙ sym c.index-end.ensures in
    subst (λ (xs : List Task). (j : ℕ) → j < length xs → counted_in xs c.deref-then-index.result.now i j ≡ true →
    j < c.index-end.result.now) (sym c.deref.ensures.value)
    (subst (λ (ns : List ℕ). (j : ℕ) → j < length ts → counted_in ts ns i j ≡ true → j < c.index-end.result.now)
    (sym c.deref-then-index.ensures.value)
    (λ j inside e. subst (λ n. j < n) end (c.self.invariant.graph.ends.past i j
    (omega (arith, inside, length-map ts task_facts, length-map (map task_facts ts) work_of)) e)))

pub release-requires-clause-end : goal.release-requires-clause-end
release-requires-clause-end c =
    let i = c.args.item in
    let ts = c.self.inside.tasks.items in
    let ss = c.self.inside.stages.items in
    let p = c.self.inside.place in
    let asked : allows (board_of ts ss p) (Close i) ≡ true =
    subst (λ (x : Board). allows x (Close i) ≡ true) (sym c.self.view_is) c.requires in
    let m = may_close (board_of ts ss p) i asked in
    let lt : i < length ts = omega (arith, m.inside, length-map ts task_facts) in
    let es = c.self.inside.ends.items in
    let within : i < length es = omega (arith, lt, c.self.invariant.graph.ends.same, length-map ts task_facts, length-map (map task_facts ts) work_of) in
    let end : slice_index es i ≡ c.index-end.result.now =
    sym (get_or_default_zero es i c.index-end.result.now within) ∙ sym c.index-end.ensures in
    let small = c.self.invariant.graph.ends.small i in
    subst (λ (xs : List Task). c.index-end.result.now ≤ length xs) (sym c.deref.ensures.value)
    (omega (arith, end, small, length-map ts task_facts, length-map (map task_facts ts) work_of))

pub first_left-self-inside-requires-clause-inside : goal.first_left-self-inside-requires-clause-inside
first_left-self-inside-requires-clause-inside c =
    let ts = c.self.inside.tasks.items in
    subst (λ (xs : List Task). c.self.inside.place ≤ length xs) (sym c.deref-then-index-3.ensures.value)
    (omega (arith, c.self.invariant.graph.ordered.inside, length-map ts task_facts))

pub first_left-self-inside-requires-clause-from : goal.first_left-self-inside-requires-clause-from
first_left-self-inside-requires-clause-from c = let h = c.self.invariant.graph.first.inside in omega (arith, h)

pub first_left-self-inside-requires-clause-below : goal.first_left-self-inside-requires-clause-below
first_left-self-inside-requires-clause-below c =
    let i = c.args.item in
    let ts = c.self.inside.tasks.items in
    let ss = c.self.inside.stages.items in
    let p = c.self.inside.place in
    let asked : allows (board_of ts ss p) (Close i) ≡ true =
    subst (λ (x : Board). allows x (Close i) ≡ true) (sym c.self.view_is) c.requires in
    subst (λ (xs : List Task). AreClosed (board_of xs c.deref-then-index-4.result.now p) c.self.inside.first) (sym c.deref-then-index-3.ensures.value)
    (subst (λ (xs : List Stage). AreClosed (board_of ts xs p) c.self.inside.first) (sym c.deref-then-index-4.ensures.value)
    (closed_below (board_of ts ss p) c.self.inside.starts.items c.self.inside.ends.items c.self.inside.missing.items c.self.inside.first i p c.self.invariant.graph asked))

pub first_left-self-inside-requires-2-clause-inside : goal.first_left-self-inside-requires-2-clause-inside
first_left-self-inside-requires-2-clause-inside c =
    let i = c.args.item in
    let ts = c.self.inside.tasks.items in
    let ss = c.self.inside.stages.items in
    let p = c.self.inside.place in
    let asked : allows (board_of ts ss p) (Close i) ≡ true =
    subst (λ (x : Board). allows x (Close i) ≡ true) (sym c.self.view_is) c.requires in
    let m = may_close (board_of ts ss p) i asked in
    let lt : i < length ts = omega (arith, m.inside, length-map ts task_facts) in
    let t : slice_get ts i ≡ Some c.index.result.now =
    slice_get-get_or ts i c.index.result.now lt ∙ ap (λ (x : Task). Some x) (sym c.index.ensures) in
    let here = host_here ts ss p c.self.inside.starts.items c.self.inside.missing.items i c.index.result.now c.self.invariant.graph.counted asked t c.if-index.false in
    subst (λ (xs : List Task). p + 1 ≤ length xs) (sym c.deref-2.ensures.value) (omega (arith, here, lt))

pub first_left-self-inside-requires-2-clause-from : goal.first_left-self-inside-requires-2-clause-from
first_left-self-inside-requires-2-clause-from c = let h = c.self.invariant.graph.first.inside in omega (arith, h)

pub first_left-self-inside-requires-2-clause-below : goal.first_left-self-inside-requires-2-clause-below
first_left-self-inside-requires-2-clause-below c =
    let i = c.args.item in
    let ts = c.self.inside.tasks.items in
    let ss = c.self.inside.stages.items in
    let p = c.self.inside.place in
    let asked : allows (board_of ts ss p) (Close i) ≡ true =
    subst (λ (x : Board). allows x (Close i) ≡ true) (sym c.self.view_is) c.requires in
    subst (λ (xs : List Task). AreClosed (board_of xs c.deref-3.result.now (p + 1)) c.self.inside.first) (sym c.deref-2.ensures.value)
    (subst (λ (xs : List Stage). AreClosed (board_of ts xs (p + 1)) c.self.inside.first) (sym c.deref-3.ensures.value)
    (closed_below (board_of ts ss p) c.self.inside.starts.items c.self.inside.ends.items c.self.inside.missing.items c.self.inside.first i (p + 1) c.self.invariant.graph asked))

-- what is said of copies
same_free : (xs ts : List Task) (ys ss : List Stage) (now : List ℕ) (marks : List Bool) → xs ≡ ts → ys ≡ ss →
    AreFree (map task_facts xs) ys now marks → AreFree (map task_facts ts) ss now marks
same_free xs ts ys ss now marks a b h =
    subst (λ (z : List Task). AreFree (map task_facts z) ss now marks) a
    (subst (λ (z : List Stage). AreFree (map task_facts xs) z now marks) b h)

pub invariant_of-self : goal.invariant_of-self
invariant_of-self c =
    let i = c.args.item in
    let ts = c.self.inside.tasks.items in
    let ss = c.self.inside.stages.items in
    let p = c.self.inside.place in
    let asked : allows (board_of ts ss p) (Close i) ≡ true =
    subst (λ (x : Board). allows x (Close i) ≡ true) (sym c.self.view_is) c.requires in
    let m = may_close (board_of ts ss p) i asked in
    let lt : i < length ts = omega (arith, m.inside, length-map ts task_facts) in
    let t : slice_get ts i ≡ Some c.index.result.now =
    slice_get-get_or ts i c.index.result.now lt ∙ ap (λ (x : Task). Some x) (sym c.index.ensures) in
    let old = c.self.inside.missing.items in
    let starts = c.self.inside.starts.items in
    let now = c.release.new.missing in
    let taken : (j : ℕ) → j < length ts → slice_index now j + one_if (counted_in ts starts i j) ≡ slice_index old j =
    subst (λ (ns : List ℕ). (j : ℕ) → j < length ts → slice_index now j + one_if (counted_in ts starts i j) ≡ slice_index ns j)
    c.deref_mut.ensures.value
    (subst (λ (ns : List ℕ). (j : ℕ) → j < length ts → slice_index now j + one_if (counted_in ts ns i j) ≡ slice_index c.deref_mut.result.now j)
    c.deref-then-index.ensures.value
    (subst (λ (xs : List Task). (j : ℕ) → j < length xs → slice_index now j + one_if (counted_in xs c.deref-then-index.result.now i j) ≡ slice_index c.deref_mut.result.now j)
    c.deref.ensures.value c.release.ensures.taken)) in
    let long : length now ≡ length ts =
    c.release.ensures.same ∙ ap (λ (xs : List Task). length xs) c.deref.ensures.value in
    let back = written_back now old c.self.inside.missing.len c.self.inside.missing.ok.0
    (omega (arith, long, c.self.invariant.graph.counted.same, length-map ts task_facts)) in
    let next = c.first_left-self-inside.result in
    let lowest : IsFirst (board_of ts (slice_set ss i stage.Closed) p) next =
    subst (λ (xs : List Task). IsFirst (board_of xs (slice_set ss i stage.Closed) p) next) c.deref-then-index-3.ensures.value
    (subst (λ (xs : List Stage). IsFirst (board_of c.deref-then-index-3.result.now xs p) next)
    c.deref-then-index-4.ensures.value c.first_left-self-inside.ensures) in
    let closed = slice_set ss i stage.Closed in
    let os = c.self.inside.open_items in
    let rs = c.self.inside.ready_items in
    let ends = c.self.inside.ends.items in
    let freed = c.release.new.ready in
    let free = same_free c.deref.result.now ts c.deref-then-index-2.result.now closed now freed c.deref.ensures.value
    c.deref-then-index-2.ensures.value c.release.ensures.ready in
    subst (λ (l : List Bool). IsGraphWith (board_of ts closed p) starts ends
    (take c.self.inside.missing.len (now ++ drop (length now) old)) next l freed) (sym c.remove.ensures)
    (subst (λ (ns : List ℕ). IsGraphWith (board_of ts closed p) starts ends ns next (slice_set os i false) freed) (sym back)
    (task_with ts ss p starts ends old now c.self.inside.first next i os rs freed
    c.index.result.now c.self.invariant asked t c.if-index.true long taken free lowest))

pub returns-then-index : goal.returns-then-index
returns-then-index c =
    let i = c.args.item in
    let ts = c.self.inside.tasks.items in
    let ss = c.self.inside.stages.items in
    let p = c.self.inside.place in
    let asked : allows (board_of ts ss p) (Close i) ≡ true =
    subst (λ (x : Board). allows x (Close i) ≡ true) (sym c.self.view_is) c.requires in
    let m = may_close (board_of ts ss p) i asked in
    let lt : i < length ts = omega (arith, m.inside, length-map ts task_facts) in
    let t : slice_get ts i ≡ Some c.index.result.now =
    slice_get-get_or ts i c.index.result.now lt ∙ ap (λ (x : Task). Some x) (sym c.index.ensures) in
    λ plan fill s u stands e.
    task_follows ts ss p c.self.inside.starts.items c.self.inside.missing.items i c.index.result.now c.self.invariant.graph.counted asked t c.if-index.true plan fill s u
    (subst (λ (x : Board). Stands plan s x) (sym c.self.view_is) stands) e

pub overflow_add-self : goal.overflow_add-self
overflow_add-self c =
    let i = c.args.item in
    let ts = c.self.inside.tasks.items in
    let ss = c.self.inside.stages.items in
    let p = c.self.inside.place in
    let asked : allows (board_of ts ss p) (Close i) ≡ true =
    subst (λ (x : Board). allows x (Close i) ≡ true) (sym c.self.view_is) c.requires in
    let m = may_close (board_of ts ss p) i asked in
    let lt : i < length ts = omega (arith, m.inside, length-map ts task_facts) in
    let t : slice_get ts i ≡ Some c.index.result.now =
    slice_get-get_or ts i c.index.result.now lt ∙ ap (λ (x : Task). Some x) (sym c.index.ensures) in
    let here = host_here ts ss p c.self.inside.starts.items c.self.inside.missing.items i c.index.result.now c.self.invariant.graph.counted asked t c.if-index.false in
    omega (arith, here, lt, c.ranges.item.fits)

pub invariant_of-self-2 : goal.invariant_of-self-2
invariant_of-self-2 c =
    let i = c.args.item in
    let ts = c.self.inside.tasks.items in
    let ss = c.self.inside.stages.items in
    let p = c.self.inside.place in
    let asked : allows (board_of ts ss p) (Close i) ≡ true =
    subst (λ (x : Board). allows x (Close i) ≡ true) (sym c.self.view_is) c.requires in
    let m = may_close (board_of ts ss p) i asked in
    let lt : i < length ts = omega (arith, m.inside, length-map ts task_facts) in
    let t : slice_get ts i ≡ Some c.index.result.now =
    slice_get-get_or ts i c.index.result.now lt ∙ ap (λ (x : Task). Some x) (sym c.index.ensures) in
    let next = c.first_left-self-inside-2.result in
    let lowest : IsFirst (board_of ts (slice_set ss i stage.Closed) (p + 1)) next =
    subst (λ (xs : List Task). IsFirst (board_of xs (slice_set ss i stage.Closed) (p + 1)) next) c.deref-2.ensures.value
    (subst (λ (xs : List Stage). IsFirst (board_of c.deref-2.result.now xs (p + 1)) next)
    c.deref-3.ensures.value c.first_left-self-inside-2.ensures) in
    subst (λ (l : List Bool). IsGraphWith (board_of ts (slice_set ss i stage.Closed) (p + 1)) c.self.inside.starts.items
    c.self.inside.ends.items c.self.inside.missing.items next l c.self.inside.ready_items) (sym c.remove.ensures)
    (host_with ts ss p c.self.inside.starts.items c.self.inside.ends.items c.self.inside.missing.items c.self.inside.first next
    i c.self.inside.open_items c.self.inside.ready_items c.index.result.now c.self.invariant asked t c.if-index.false lowest)

pub returns : goal.returns
returns c =
    let i = c.args.item in
    let ts = c.self.inside.tasks.items in
    let ss = c.self.inside.stages.items in
    let p = c.self.inside.place in
    let asked : allows (board_of ts ss p) (Close i) ≡ true =
    subst (λ (x : Board). allows x (Close i) ≡ true) (sym c.self.view_is) c.requires in
    let m = may_close (board_of ts ss p) i asked in
    let lt : i < length ts = omega (arith, m.inside, length-map ts task_facts) in
    let t : slice_get ts i ≡ Some c.index.result.now =
    slice_get-get_or ts i c.index.result.now lt ∙ ap (λ (x : Task). Some x) (sym c.index.ensures) in
    λ plan fill s u stands e.
    host_follows ts ss p c.self.inside.starts.items c.self.inside.missing.items i c.index.result.now c.self.invariant.graph.counted asked t c.if-index.false plan fill s u
    (subst (λ (x : Board). Stands plan s x) (sym c.self.view_is) stands) e

pub remove-requires : goal.remove-requires
remove-requires c =
    let ts = c.self.inside.tasks.items in
    let ss = c.self.inside.stages.items in
    let p = c.self.inside.place in
    let asked : allows (board_of ts ss p) (Close c.args.item) ≡ true =
    subst (λ (x : Board). allows x (Close c.args.item) ≡ true) (sym c.self.view_is) c.requires in
    is_opened (board_of ts ss p) c.self.inside.starts.items c.self.inside.ends.items c.self.inside.missing.items c.self.inside.first
    c.args.item c.self.inside.open_items c.self.inside.ready_items c.self.invariant asked

pub release-requires-clause-ready : goal.release-requires-clause-ready
release-requires-clause-ready c =
    let ts = c.self.inside.tasks.items in
    let ss = c.self.inside.stages.items in
    let p = c.self.inside.place in
    let i = c.args.item in
    let asked : allows (board_of ts ss p) (Close i) ≡ true =
    subst (λ (x : Board). allows x (Close i) ≡ true) (sym c.self.view_is) c.requires in
    let rs = c.self.inside.ready_items in
    let free = closed_free (board_of ts ss p) c.self.inside.starts.items c.self.inside.ends.items c.self.inside.missing.items
    c.self.inside.first i c.self.inside.open_items rs c.self.invariant asked in
    same_free ts c.deref.result.now (slice_set ss i stage.Closed) c.deref-then-index-2.result.now c.deref_mut.result.now rs
    (sym c.deref.ensures.value) (sym c.deref-then-index-2.ensures.value)
    (subst (λ (ns : List ℕ). AreFree (map task_facts ts) (slice_set ss i stage.Closed) ns rs) (sym c.deref_mut.ensures.value) free)
