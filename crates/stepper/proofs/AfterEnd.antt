-- After the end nothing may happen.
use Rattle.std.proofs.Common.{◌≡◌, ℕ, ◌+◌, ◌%◌, Bool, true, false, List, [], length, refl, sym, ap, ◌∙◌, arith, Some, None}
use Rattle.std.specs.Prelude.{◌==◌, ◌&&◌, ◌||◌, not, slice_get}
use Rattle.std.proofs.lemmas.Bool.{and_parts, eqb-true}
use Rattle.std.proofs.lemmas.Option.{slice_get_within}
use Rattle.base.specs.declared.item.Event.{Event}
use Rattle.base.specs.declared.item.Event.TheVariants.{Gen, Open, Step, Close, Wait, End}
use Rattle.base.specs.Items.{Work, Plan}
use Rattle.base.specs.Machine.{deferred_closed, first_or_zero, is_open, is_ready, is_wait, is_waiting}
use Rattle.base.proofs.Runs.{enabled_Gen, enabled_End, enabled_Wait}
use Rattle.two_memories.proofs.PlanItems.{closed_at, on_true}
use Rattle.device.proofs.Allowing.{none_allowed}
use Rattle.device.proofs.Ended.{open_closed, waiting_closed}
use Rattle.fine_machine.specs.Machine.{State, all_enabled, as_whole, enabled, has_step, is_finished, whole_condition}
use Rattle.stepper.specs.declared.standing.Standing.{Standing}
use Rattle.stepper.specs.Answering.{next_by}
use Rattle.stepper.specs.Standing.{IsAt, IsHere, place_of}
use Rattle.stepper.proofs.Follows.{candidates}
use Rattle.stepper.proofs.Stood.{open_acting, open_finished}

module _ (p : Plan) (s : State) (here : IsHere p s) (last : s.place ≡ length p.items + 1)
    (closed : deferred_closed p (as_whole s) ≡ true) where
  none_open : (i : ℕ) (w : Work) → slice_get p.items i ≡ Some w → is_open (whole_condition (s.condition i)) ≡ true → ⊥
  none_open i w is h = go w.deferred refl
    where
      go : (v : Bool) → w.deferred ≡ v → ⊥
      go true later = open_closed (whole_condition (s.condition i)) h (closed_at p (as_whole s) i w closed is later)
      go false now =
          let inside = slice_get_within p.items i w is in
          let stood = here i w is now h in
          omega arith

  none_opened : (i : ℕ) → enabled p s (Open i) ≡ true → ⊥
  none_opened i h =
      let f = on_true p i (λ w. not (is_wait w.kind) && ((w.deferred || (s.place == i)) &&
      (is_waiting w.deferred ((as_whole s).condition i) && is_ready p (as_whole s) i))) h in
      let a = and_parts (not (is_wait f.0.kind)) _ f.2 in
      let b = and_parts (f.0.deferred || (s.place == i)) _ a.1 in
      let d = and_parts (is_waiting f.0.deferred ((as_whole s).condition i)) (is_ready p (as_whole s) i) b.1 in
      go f.0 f.1 f.0.deferred refl b.0 d.0
    where
      go : (w : Work) → slice_get p.items i ≡ Some w → (v : Bool) → w.deferred ≡ v → (v || (s.place == i)) ≡ true →
          is_waiting v ((as_whole s).condition i) ≡ true → ⊥
      go w is true later h waits =
          waiting_closed ((as_whole s).condition i) waits (closed_at p (as_whole s) i w closed is later)
      go w is false now h waits =
          let at = eqb-true s.place i h in
          let inside = slice_get_within p.items i w is in
          omega arith

  nothing_more : (e : Event) → enabled p s e ≡ true → ⊥
  nothing_more (Gen i) h = let k = enabled_Gen p (as_whole s) i h in omega arith
  nothing_more (Open i) h = none_opened i h
  nothing_more (Step i) h =
      let f = on_true p i (λ w. has_step (s.condition i)) h in
      none_open i f.0 f.1 (open_acting (s.condition i) f.2)
  nothing_more (Close i) h =
      let f = on_true p i (λ w. is_finished (s.condition i)) h in
      none_open i f.0 f.1 (open_finished (s.condition i) f.2)
  nothing_more (Wait i) h = let k = enabled_Wait p (as_whole s) i h in omega arith
  nothing_more End h = let k = enabled_End p (as_whole s) h in omega arith

  none_after : all_enabled p s ≡ []
  none_after = none_allowed (candidates p s) (enabled p s) nothing_more

-- of a state that is shown, where the run has ended
pub nothing_next : (p : Plan) (now : Standing) (s : State) → IsAt p now s → now.ended ≡ true → (choices : List ℕ) →
    None ≡ next_by p s choices
nothing_next p now s at over choices =
    sym (ap (λ (es : List Event). slice_get es (first_or_zero choices % length es))
    (none_after p s at.here
    (at.place ∙ ap (λ v. place_of v now.graph.place) over ∙ ap (λ n. n + 1) (at.ended over).0) (at.ended over).1))

pub nothing_enabled : (p : Plan) (now : Standing) (s : State) → IsAt p now s → now.ended ≡ true → (e : Event) →
    enabled p s e ≡ true → ⊥
nothing_enabled p now s at over =
    nothing_more p s at.here
    (at.place ∙ ap (λ v. place_of v now.graph.place) over ∙ ap (λ n. n + 1) (at.ended over).0) (at.ended over).1
