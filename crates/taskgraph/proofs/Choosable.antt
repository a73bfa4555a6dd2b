-- The marked items are those that may be closed, and the deferred ones that may be opened.
use Rattle.std.proofs.Common.{◌≡◌, ◌⊎◌, inl, inr, ℕ, zero, suc, ◌<◌, ◌≤◌, Bool, true, false, List, [], ◌∷◌, length, Option, Some, None, refl, sym, ap, ◌∙◌, arith}
use Rattle.std.specs.Prelude.{◌==◌, ◌&&◌, ◌||◌, not, slice_get, slice_index, if◌then◌else◌}
use Rattle.std.proofs.lemmas.Bool.{and_parts, cases_lt, eqb-true, not-true}
use Rattle.std.proofs.lemmas.Option.{slice_get_within}
use Rattle.base.specs.declared.item.Event.TheVariants.{Open, Close, Wait}
use Rattle.base.specs.Machine.{is_empty, is_open, is_wait, is_waiting, on_item}
use Rattle.taskgraph.specs.Board.{Facts, Board, IsTask, all_closings, allows, condition_of, plan_in, stage_at, state_in, work_of}
use Rattle.taskgraph.specs.Marks.{all_marked, is_marked, those_from}
use Rattle.taskgraph.specs.Waiting.{AreMarks, IsGraph, IsGraphWith, begins, is_bare, is_free, is_open_in, waits_for}
use Rattle.taskgraph.proofs.Free.{free_is}
use Rattle.taskgraph.proofs.Before.{opens_free}
use Rattle.taskgraph.proofs.FreeMarks.{free_in}
use Rattle.taskgraph.proofs.Kept.{may_open}
use Rattle.taskgraph.proofs.Parts.{asked_at, close_past, open_part, open_past}
use Rattle.taskgraph.proofs.Those.{same}

none_inside : {A : Type 0} (xs : List A) (k : ℕ) → k < length xs → slice_get xs k ≡ None → ⊥
none_inside [] k lt e = omega (arith, lt)
none_inside (x ∷ xs) zero lt e = cc e
none_inside (x ∷ xs) (suc k) lt e = none_inside xs k (omega (arith, lt)) e

-- ---- an item that is marked as open may be closed

pub open_is : (b : Board) (i : ℕ) → length b.stages ≡ length b.tasks → is_open_in b i ≡ allows b (Close i)
open_is b i long = go (slice_get b.tasks i) refl
  where
    go : (o : Option Facts) → slice_get b.tasks i ≡ o → is_open_in b i ≡ allows b (Close i)
    go (Some f) e = asked_at b i (λ w. is_open ((state_in b).condition i)) f e
    go None e = past (cases_lt i (length b.tasks))
      where
        past : (i < length b.tasks) ⊎ (length b.tasks ≤ i) → is_open_in b i ≡ allows b (Close i)
        past (inr le) = sym (open_past b i (omega (arith, le, long))) ∙ close_past b i le
        past (inl lt) = absurd (none_inside b.tasks i lt e)

-- all items of which the marks tell
those_marked : (n : ℕ) (p q : ℕ → Bool) (marks : List Bool) → AreMarks n p marks → ((i : ℕ) → p i ≡ q i) →
    all_marked marks ≡ those_from q 0 n
those_marked n p q marks h e =
    ap (those_from (is_marked marks) 0) h.long ∙ same (is_marked marks) q 0 n (λ i _ _. h.each i ∙ e i)

pub closings : (b : Board) (starts ends counts : List ℕ) (first : ℕ) (os rs : List Bool) →
    IsGraphWith b starts ends counts first os rs → all_marked os ≡ all_closings b
closings b starts ends counts first os rs g =
    those_marked (length b.tasks) (is_open_in b) (λ i. allows b (Close i)) os g.opened
    (λ i. open_is b i g.graph.counted.stages)

-- ---- one that is marked as ready may be opened

free_opens : (b : Board) (starts ends counts : List ℕ) (first i : ℕ) (f : Facts) → IsGraph b starts ends counts first →
    slice_get b.tasks i ≡ Some f → is_free f (stage_at b i) (slice_index counts i) ≡ true → IsTask (plan_in b) (state_in b) i
free_opens b starts ends counts first i f g is e =
    let p = and_parts (f.deferred && not (is_wait f.kind)) _ e in
    let q = and_parts f.deferred (not (is_wait f.kind)) p.0 in
    let r = and_parts (is_waiting true (condition_of (stage_at b i))) (slice_index counts i == 0) p.1 in
    let no_wait : is_wait f.kind ≡ false = not-true (is_wait f.kind) q.1 in
    let inside = slice_get_within b.tasks i f is in
    let zero : waits_for b starts i ≡ 0 = sym (g.counted.missing i inside) ∙ eqb-true (slice_index counts i) 0 r.1 in
    let bare : is_bare (work_of f) ≡ false = ap (λ x. x && is_empty f.depends) no_wait in
    let here = b.place == i in
    let may : begins f (stage_at b i) here ≡ true =
    ap (λ w. if w then here else ((f.deferred || here) && is_waiting f.deferred (condition_of (stage_at b i)))) no_wait
    ∙ ap (λ d. (d || here) && is_waiting d (condition_of (stage_at b i))) q.0 ∙ r.0 in
    let either : (allows b (Open i) || allows b (Wait i)) ≡ true =
    sym (free_is b starts ends counts first i f g is bare zero) ∙ may in
    let asked : on_item (plan_in b) i false (λ w. is_wait w.kind) ≡ false =
    sym (asked_at b i (λ w. is_wait w.kind) f is) ∙ no_wait in (
      sym (asked_at b i (λ w. w.deferred) f is) ∙ q.0,
      sym (open_part b i) ∙ ap (λ x. x && not (on_item (plan_in b) i false (λ w. is_wait w.kind))) either ∙ ap not asked,
    )

pub marked_task : (b : Board) (starts ends counts : List ℕ) (first : ℕ) (os rs : List Bool) (i : ℕ) →
    IsGraphWith b starts ends counts first os rs → is_marked rs i ≡ true → IsTask (plan_in b) (state_in b) i
marked_task b starts ends counts first os rs i g e = go (slice_get b.tasks i) refl (sym (g.ready.each i) ∙ e)
  where
    go : (o : Option Facts) → slice_get b.tasks i ≡ o → free_in b.stages counts i o ≡ true → IsTask (plan_in b) (state_in b) i
    go None is e = absurd cc
    go (Some f) is e = free_opens b starts ends counts first i f g.graph is e

pub task_marked : (b : Board) (starts ends counts : List ℕ) (first : ℕ) (os rs : List Bool) (i : ℕ) →
    IsGraphWith b starts ends counts first os rs → IsTask (plan_in b) (state_in b) i → is_marked rs i ≡ true
task_marked b starts ends counts first os rs i g t =
    let m = may_open b i t.1 in
    g.ready.each i ∙ opens_free b starts counts i g.graph.counted t.1 (asked_at b i (λ w. w.deferred) m.facts m.is ∙ t.0)
