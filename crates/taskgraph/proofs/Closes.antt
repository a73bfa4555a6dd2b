-- The counts stay right where an item is closed.
use Rattle.std.proofs.Common.{◌≡◌, ◌⊎◌, inl, inr, ℕ, suc, ◌+◌, ◌-◌, ◌<◌, ◌≤◌, true, false, List, length, map, Option, Some, None, refl, sym, ap, subst, ◌∙◌, arith}
use Rattle.std.specs.Prelude.{◌&&◌, nat_le, nat_lt, slice_get, slice_index, option_map}
use Rattle.std.proofs.lemmas.Bool.{cases_lt}
use Rattle.std.proofs.lemmas.List.{length-set}
use Rattle.std.proofs.lemmas.Option.{slice_get-map}
use Rattle.std.proofs.Math.Bool.{and-false}
use Rattle.base.specs.declared.item.Event.TheVariants.{Close}
use Rattle.base.specs.Items.{Work}
use Rattle.base.specs.Machine.{is_closed, is_wait, is_predecessor, on_item, precedes}
use Rattle.taskgraph.specs.declared.Stage.TheVariants as stage
use Rattle.taskgraph.specs.Board.{Facts, Board, work_of, plan_in, stage_at, condition_of, allows}
use Rattle.taskgraph.specs.Waiting.{IsCounted, IsOpenTask, is_counted, held_by, one_if}
use Rattle.taskgraph.proofs.Counts.{closed_in, set_at, close_keeps, close_takes}
use Rattle.taskgraph.proofs.Kept.{may_close}
use Rattle.taskgraph.proofs.Stays.{after}
use Rattle.taskgraph.proofs.Releases.{uncounted}

-- what item j waits for, before and after item i is closed
pub closing : (b : Board) (s i j place : ℕ) → i < length b.stages → closed_in b i ≡ false →
    held_by b s j j ≡ held_by (set_at b i stage.Closed place) s j j + one_if (is_counted (plan_in b) s i j)
closing b s i j place lt was = go (cases_lt i j)
  where
    go : (i < j) ⊎ (j ≤ i) →
        held_by b s j j ≡ held_by (set_at b i stage.Closed place) s j j + one_if (is_counted (plan_in b) s i j)
    go (inl below) =
        let whole : suc i + (j - suc i) ≡ j = omega (arith, below) in
        subst (λ n. held_by b s j n ≡ held_by (set_at b i stage.Closed place) s j n + one_if (is_counted (plan_in b) s i j)) whole
        (close_takes b i place s j (j - suc i) lt was)
    go (inr above) =
        let kept = close_keeps b i place s j j above in
        let none : one_if (is_counted (plan_in b) s i j) ≡ 0 = ap one_if (uncounted b s i j above) in
        omega (arith, kept, none)

-- an item that is not deferred precedes none
pub host_precedes : (b : Board) (i j : ℕ) (f : Facts) → slice_get b.tasks i ≡ Some f → f.deferred ≡ false →
    precedes (plan_in b) i j ≡ false
host_precedes b i j f e d =
    let at : slice_get (map work_of b.tasks) i ≡ Some (work_of f) =
    slice_get-map work_of b.tasks i ∙ ap (option_map work_of) e in
    ap (λ (o : Option Work). nat_lt i j && elim o
    [ None ↦ false | Some v ↦ on_item (plan_in b) j false (λ w. is_predecessor v w) ]) at
    ∙ ap (λ x. nat_lt i j && x) (no_one (slice_get (map work_of b.tasks) j)) ∙ and-false (nat_lt i j)
  where
    no_one : (o : Option Work) → elim o [ None ↦ false | Some w ↦ is_predecessor (work_of f) w ] ≡ false
    no_one None = refl
    no_one (Some w) = rw d refl

pub host_counted : (b : Board) (s i j : ℕ) (f : Facts) → slice_get b.tasks i ≡ Some f → f.deferred ≡ false →
    is_counted (plan_in b) s i j ≡ false
host_counted b s i j f e d = ap (λ x. nat_le s i && x) (host_precedes b i j f e d) ∙ and-false (nat_le s i)

pub was_open : (b : Board) (i : ℕ) → stage_at b i ≡ stage.Open → closed_in b i ≡ false
was_open b i e = ap (λ x. is_closed (condition_of x)) e

-- what an open item tells
abbrev open_task : Board → ℕ → Facts → Type 0
open_task b i f =
    (is_wait f.kind ≡ false) × (f.deferred ≡ false → b.place ≡ i) × (f.deferred ≡ true → i < b.place)

pub opened_at : (b : Board) (starts counts : List ℕ) (i : ℕ) (f : Facts) → IsCounted b starts counts → stage_at b i ≡ stage.Open →
    slice_get b.tasks i ≡ Some f → open_task b i f
opened_at b starts counts i f h e at = subst (λ o. IsOpenTask b i o) at (h.opened i e)

-- the item is not deferred: the host moves on, and no count changes
pub host : (b : Board) (starts counts : List ℕ) (i : ℕ) (f : Facts) → IsCounted b starts counts → allows b (Close i) ≡ true →
    slice_get b.tasks i ≡ Some f → f.deferred ≡ false → IsCounted (set_at b i stage.Closed (b.place + 1)) starts counts
host b starts counts i f h a at d =
    let m = may_close b i a in
    let lt : i < length b.stages = omega (arith, m.inside, h.stages) in
    let here : b.place ≡ i = (opened_at b starts counts i f h m.stage_is at).1 d in
    record {
      stages = length-set b.stages i stage.Closed ∙ h.stages;
      same = h.same;
      missing = λ j inside.
          let less = closing b (slice_index starts j) i j (b.place + 1) lt (was_open b i m.stage_is) in
          let none : one_if (is_counted (plan_in b) (slice_index starts j) i j) ≡ 0 =
          ap one_if (host_counted b (slice_index starts j) i j f at d) in
          let before = h.missing j inside in omega (arith, less, none, before);
      generated = λ k e. elim (after b i k stage.Closed stage.Generated (b.place + 1) lt e) [
        | inl p ↦ absurd (let bad : stage.Closed ≡ stage.Generated = p.1 in cc)
        | inr p ↦ omega (arith, h.generated k p.1)
      ];
      closed = λ k e. elim (after b i k stage.Closed stage.Closed (b.place + 1) lt e) [
        | inl p ↦ omega (arith, p.0, here)
        | inr p ↦ omega (arith, h.closed k p.1)
      ];
      opened = λ k e. elim (after b i k stage.Closed stage.Open (b.place + 1) lt e) [
        | inl p ↦ absurd (let bad : stage.Closed ≡ stage.Open = p.1 in cc)
        | inr p ↦ others k (slice_get b.tasks k) p.0 here (h.opened k p.1)
      ];
    }
  where
    others : (k : ℕ) (o : Option Facts) → (k ≡ i → ⊥) → b.place ≡ i → IsOpenTask b k o →
        IsOpenTask (set_at b i stage.Closed (b.place + 1)) k o
    others k None ne here g = absurd g
    others k (Some t) ne here g = (
      g.0,
      λ e. absurd (ne (sym (g.1 e) ∙ here)),
      λ e. omega (arith, g.2 e),
    )

-- the item is deferred: each count that it was in has lost it
pub task : (b : Board) (starts counts less : List ℕ) (i : ℕ) → IsCounted b starts counts → allows b (Close i) ≡ true →
    length less ≡ length b.tasks →
    ((j : ℕ) → j < length b.tasks →
    slice_index less j + one_if (is_counted (plan_in b) (slice_index starts j) i j) ≡ slice_index counts j) →
    ((f : Facts) → slice_get b.tasks i ≡ Some f → f.deferred ≡ true) →
    IsCounted (set_at b i stage.Closed b.place) starts less
task b starts counts less i h a long taken d =
    let m = may_close b i a in
    let lt : i < length b.stages = omega (arith, m.inside, h.stages) in
    let past : i < b.place = (opened_at b starts counts i m.facts h m.stage_is m.is).2 (d m.facts m.is) in
    record {
      stages = length-set b.stages i stage.Closed ∙ h.stages;
      same = long;
      missing = λ j inside.
          let all = closing b (slice_index starts j) i j b.place lt (was_open b i m.stage_is) in
          let one = taken j inside in
          let before = h.missing j inside in omega (arith, all, one, before);
      generated = λ k e. elim (after b i k stage.Closed stage.Generated b.place lt e) [
        | inl p ↦ absurd (let bad : stage.Closed ≡ stage.Generated = p.1 in cc)
        | inr p ↦ h.generated k p.1
      ];
      closed = λ k e. elim (after b i k stage.Closed stage.Closed b.place lt e) [
        | inl p ↦ omega (arith, p.0, past)
        | inr p ↦ h.closed k p.1
      ];
      opened = λ k e. elim (after b i k stage.Closed stage.Open b.place lt e) [
        | inl p ↦ absurd (let bad : stage.Closed ≡ stage.Open = p.1 in cc)
        | inr p ↦ others k (slice_get b.tasks k) (h.opened k p.1)
      ];
    }
  where
    others : (k : ℕ) (o : Option Facts) → IsOpenTask b k o → IsOpenTask (set_at b i stage.Closed b.place) k o
    others k None g = absurd g
    others k (Some t) g = g

-- an item that is counted for another one is in its count
pub in_count : (b : Board) (starts counts : List ℕ) (i j : ℕ) → IsCounted b starts counts → allows b (Close i) ≡ true →
    j < length b.tasks → one_if (is_counted (plan_in b) (slice_index starts j) i j) ≤ slice_index counts j
in_count b starts counts i j h a inside =
    let m = may_close b i a in
    let lt : i < length b.stages = omega (arith, m.inside, h.stages) in
    let all = closing b (slice_index starts j) i j b.place lt (was_open b i m.stage_is) in
    let before = h.missing j inside in
    omega (arith, all, before)
