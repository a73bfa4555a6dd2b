-- After the end nothing may happen.
use Rattle.std.proofs.Common.{◌≡◌, ◌+◌, ℕ, Bool, true, false, List, length, Some, refl, subst, arith}
use Rattle.std.specs.Prelude.{not, ◌&&◌, ◌||◌, ◌==◌, slice_get}
use Rattle.std.proofs.lemmas.Bool.{false≢true, and_parts, eqb-true}
use Rattle.std.proofs.lemmas.Option.{same_Some, slice_get_within}
use Rattle.base.specs.declared.tree.Program.{Program}
use Rattle.base.specs.declared.item.Event.{Event}
use Rattle.base.specs.declared.item.Event.TheVariants.{Gen, Open, Step, Close, Wait, End}
use Rattle.base.specs.Meaning.{lengths_of}
use Rattle.base.specs.Items.{Work, plan}
use Rattle.base.specs.Map.{Fill}
use Rattle.base.specs.Machine.{State, Condition, Untouched, Generated, Opened, Closed, Passed, start, is_closed, is_open, is_waiting, is_wait, is_ready, deferred_closed, enabled, RunFrom}
use Rattle.base.proofs.Runs.{enabled_Gen, enabled_End, enabled_Wait}
use Rattle.headline.proofs.NeverStuck.{sensible_at}
use Rattle.headline.proofs.PlainWorks.{Sensible, list_sensible}
use Rattle.headline.proofs.SoundConditions.{Sound, is_done, is_untouched, run_sound, start_sound}
use Rattle.two_memories.proofs.PlanItems.{closed_at, on_true}

pub sensible : (p : Program) (j : ℕ) (w : Work) → slice_get (plan p).items j ≡ Some w → Sensible w
sensible p = sensible_at (plan p).items (list_sensible (lengths_of p) p.body.items)

-- what is known of conditions in each state that a run reaches
pub sound : (p : Program) (fill : ℕ → Fill) (input : List ℕ) (events : List Event) (s : State) →
    RunFrom (plan p) fill input events (Some s) → Sound (plan p) fill (sensible p) s
sound p fill input events s ran =
    run_sound (plan p) fill (sensible p) events (Some (start input)) s
    (λ u k. subst (Sound (plan p) fill (sensible p)) (same_Some (start input) u k)
    (start_sound (plan p) fill (sensible p) input)) ran

pub open_closed : (c : Condition) → is_open c ≡ true → is_closed c ≡ true → ⊥
open_closed Untouched h k = false≢true h
open_closed (Generated s) h k = false≢true h
open_closed (Opened s v) h k = false≢true k
open_closed Closed h k = false≢true h
open_closed Passed h k = false≢true h

pub waiting_closed : (c : Condition) → is_waiting true c ≡ true → is_closed c ≡ true → ⊥
waiting_closed Untouched h k = false≢true h
waiting_closed (Generated s) h k = false≢true k
waiting_closed (Opened s v) h k = false≢true h
waiting_closed Closed h k = false≢true h
waiting_closed Passed h k = false≢true h

pub open_done : (c : Condition) → is_open c ≡ true → is_done c ≡ true → ⊥
open_done Untouched h k = false≢true h
open_done (Generated s) h k = false≢true h
open_done (Opened s v) h k = false≢true k
open_done Closed h k = false≢true h
open_done Passed h k = false≢true h

pub open_untouched : (c : Condition) → is_open c ≡ true → is_untouched c ≡ true → ⊥
open_untouched Untouched h k = false≢true h
open_untouched (Generated s) h k = false≢true h
open_untouched (Opened s v) h k = false≢true k
open_untouched Closed h k = false≢true h
open_untouched Passed h k = false≢true h

module _ (p : Program) (fill : ℕ → Fill) (s : State) (ok : Sound (plan p) fill (sensible p) s)
    (last : s.place ≡ length (plan p).items + 1) (closed : deferred_closed (plan p) s ≡ true) where
  no_open : (i : ℕ) → enabled (plan p) s (Open i) ≡ true → ⊥
  no_open i h =
      let f = on_true (plan p) i (λ w. not (is_wait w.kind) && ((w.deferred || (s.place == i)) &&
      (is_waiting w.deferred (s.condition i) && is_ready (plan p) s i))) h in
      let a = and_parts (not (is_wait f.0.kind)) _ f.2 in
      let b = and_parts (f.0.deferred || (s.place == i)) _ a.1 in
      let d = and_parts (is_waiting f.0.deferred (s.condition i)) (is_ready (plan p) s i) b.1 in
      go f.0 f.1 f.0.deferred refl b.0 d.0
    where
      go : (w : Work) → slice_get (plan p).items i ≡ Some w → (b : Bool) → w.deferred ≡ b → (b || (s.place == i)) ≡ true →
          is_waiting b (s.condition i) ≡ true → ⊥
      go w e true d h k = waiting_closed (s.condition i) k (closed_at (plan p) s i w closed e d)
      go w e false d h k =
          let at = eqb-true s.place i h in
          let lt = slice_get_within (plan p).items i w e in
          omega arith

  no_close : (i : ℕ) → enabled (plan p) s (Close i) ≡ true → ⊥
  no_close i h =
      let f = on_true (plan p) i (λ w. is_open (s.condition i)) h in
      go f.0 f.1 f.0.deferred refl f.2
    where
      go : (w : Work) → slice_get (plan p).items i ≡ Some w → (b : Bool) → w.deferred ≡ b →
          is_open (s.condition i) ≡ true → ⊥
      go w e true d h = open_closed (s.condition i) h (closed_at (plan p) s i w closed e d)
      go w e false d h =
          let lt = slice_get_within (plan p).items i w e in
          open_done (s.condition i) h ((ok.items i w e).behind d (omega arith))

  pub nothing_more : (e : Event) → enabled (plan p) s e ≡ true → ⊥
  nothing_more (Gen i) h = let k = enabled_Gen (plan p) s i h in omega arith
  nothing_more (Open i) h = no_open i h
  nothing_more (Step i) h = absurd (false≢true h)
  nothing_more (Close i) h = no_close i h
  nothing_more (Wait i) h = let k = enabled_Wait (plan p) s i h in omega arith
  nothing_more End h = let k = enabled_End (plan p) s h in omega arith
