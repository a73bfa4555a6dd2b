-- The parts of readiness: whether an item may be opened, passed or closed.
use Rattle.std.proofs.Common.{◌≡◌, ℕ, ◌≤◌, Bool, true, false, length, map, Option, Some, None, sym, ap, ◌∙◌}
use Rattle.std.specs.Prelude.{◌==◌, ◌&&◌, ◌||◌, not, slice_get, option_map}
use Rattle.std.proofs.lemmas.List.{get_or_past}
use Rattle.std.proofs.lemmas.Option.{slice_get-map, slice_get_past}
use Rattle.std.proofs.Math.Bool.{and-false, and-true, or-false}
use Rattle.base.specs.declared.item.Event.TheVariants.{Open, Close, Wait}
use Rattle.base.specs.Items.{Work}
use Rattle.base.specs.Machine.{is_closed, is_open, is_wait, is_waiting, is_ready, on_item}
use Rattle.taskgraph.specs.declared.Stage.TheVariants as stage
use Rattle.taskgraph.specs.Board.{Facts, Board, work_of, plan_in, state_in, condition_of, allows}
use Rattle.taskgraph.proofs.Ready.{answered}

open_table : (x a p r : Bool) → (((not x && a) || (p && (x && r))) && not x) ≡ (not x && a)
open_table true a p r = and-false (p && (true && r))
open_table false a p r = and-true (a || (p && false)) ∙ ap (λ y. a || y) (and-false p) ∙ or-false a

wait_table : (x a p r : Bool) → (((not x && a) || (p && (x && r))) && x) ≡ (p && (x && r))
wait_table true a p r = and-true (p && (true && r))
wait_table false a p r = and-false (a || (p && false)) ∙ sym (and-false p)

abbrev waits : Option Work → Bool
waits o = elim o [ None ↦ false | Some w ↦ is_wait w.kind ]

abbrev opens : Board → ℕ → Option Work → Bool
opens b i o = elim o [
  | None ↦ false
  | Some w ↦
      not (is_wait w.kind) && ((w.deferred || (b.place == i)) &&
      (is_waiting w.deferred ((state_in b).condition i) && is_ready (plan_in b) (state_in b) i))
]

pub open_part : (b : Board) (i : ℕ) →
    ((allows b (Open i) || allows b (Wait i)) && not (on_item (plan_in b) i false (λ w. is_wait w.kind)))
    ≡ allows b (Open i)
open_part b i = go (slice_get (map work_of b.tasks) i)
  where
    go : (o : Option Work) → (answered b i o && not (waits o)) ≡ opens b i o
    go None = and-true (answered b i None) ∙ and-false (b.place == i)
    go (Some w) =
        open_table (is_wait w.kind)
        ((w.deferred || (b.place == i)) &&
        (is_waiting w.deferred ((state_in b).condition i) && is_ready (plan_in b) (state_in b) i))
        (b.place == i) (is_ready (plan_in b) (state_in b) i)

pub wait_part : (b : Board) (i : ℕ) →
    ((allows b (Open i) || allows b (Wait i)) && on_item (plan_in b) i false (λ w. is_wait w.kind)) ≡ allows b (Wait i)
wait_part b i = go (slice_get (map work_of b.tasks) i)
  where
    go : (o : Option Work) →
        (answered b i o && waits o) ≡ ((b.place == i) && (waits o && is_ready (plan_in b) (state_in b) i))
    go None = and-false (answered b i None) ∙ sym (and-false (b.place == i))
    go (Some w) =
        wait_table (is_wait w.kind)
        ((w.deferred || (b.place == i)) &&
        (is_waiting w.deferred ((state_in b).condition i) && is_ready (plan_in b) (state_in b) i))
        (b.place == i) (is_ready (plan_in b) (state_in b) i)

-- a question to an item past the last
none_at : (b : Board) (i : ℕ) (g : Work → Bool) → slice_get b.tasks i ≡ None → false ≡ on_item (plan_in b) i false g
none_at b i g e =
    sym (ap (λ (o : Option Work). elim o [ None ↦ false | Some w ↦ g w ])
    (slice_get-map work_of b.tasks i ∙ ap (option_map work_of) e))

pub asked_past : (b : Board) (i : ℕ) (g : Work → Bool) → length b.tasks ≤ i → false ≡ on_item (plan_in b) i false g
asked_past b i g h = none_at b i g (slice_get_past b.tasks i h)

-- and to one of them
pub asked_at : (b : Board) (i : ℕ) (g : Work → Bool) (f : Facts) → slice_get b.tasks i ≡ Some f →
    g (work_of f) ≡ on_item (plan_in b) i false g
asked_at b i g f e =
    sym (ap (λ (o : Option Work). elim o [ None ↦ false | Some w ↦ g w ])
    (slice_get-map work_of b.tasks i ∙ ap (option_map work_of) e))

pub open_past : (b : Board) (i : ℕ) → length b.stages ≤ i → false ≡ is_open ((state_in b).condition i)
open_past b i h = sym (ap (λ st. is_open (condition_of st)) (get_or_past b.stages i stage.Untouched h))

pub closed_past : (b : Board) (i : ℕ) → length b.stages ≤ i → false ≡ is_closed ((state_in b).condition i)
closed_past b i h = sym (ap (λ st. is_closed (condition_of st)) (get_or_past b.stages i stage.Untouched h))

pub close_past : (b : Board) (i : ℕ) → length b.tasks ≤ i → false ≡ allows b (Close i)
close_past b i h = asked_past b i (λ w. is_open ((state_in b).condition i)) h
