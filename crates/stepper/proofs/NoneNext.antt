-- A run of which no event may happen next has ended.
use Rattle.std.proofs.Common.{◌≡◌, ℕ, zero, suc, ◌+◌, ◌<◌, ◌≤◌, Bool, true, false, List, [], ◌∷◌, ◌++◌, length, refl, sym, ap, ◌∙◌, arith, Some}
use Rattle.std.specs.Prelude.{◌==◌, ◌&&◌, ◌||◌, not, cond, filter}
use Rattle.std.proofs.lemmas.Bool.{true≢false, eqb-true, eq-eqb}
use Rattle.base.specs.declared.item.Event.{Event}
use Rattle.base.specs.declared.item.Event.TheVariants.{Gen, Open, Step, Close, Wait, End}
use Rattle.base.specs.declared.tree.Program.{Program}
use Rattle.base.specs.Items.{Plan, plan}
use Rattle.base.specs.Map.{Fill}
use Rattle.base.specs.Machine.{is_ready, is_wait, is_waiting}
use Rattle.base.proofs.Runs.{enabled_Gen, enabled_Wait}
use Rattle.two_memories.proofs.PlanItems.{within}
use Rattle.fine_machine.specs.Machine.{HasEnded, RunFrom, State, all_enabled, as_whole, enabled, has_step, is_finished}
use Rattle.fine_headline.proofs.NeverStuck.{a_run_goes_on}
use Rattle.stepper.proofs.NextEvents.{acts, host, openings}

-- where no element of a list passes
none_first : (f : Event → Bool) (e : Event) (es : List Event) → filter f (e ∷ es) ≡ [] →
    (f e ≡ true → ⊥) × (filter f es ≡ [])
none_first f e es h = go (f e) refl h
  where
    go : (v : Bool) → f e ≡ v → cond v (e ∷ filter f es) (filter f es) ≡ [] → (f e ≡ true → ⊥) × (filter f es ≡ [])
    go true is h = absurd (cc h)
    go false is h = (λ may. true≢false (sym may ∙ is), h)

above : (a i : ℕ) → a ≤ i → (i ≡ a → ⊥) → a + 1 ≤ i
above a i le other = omega arith

module _ (f : Event → Bool) where
  past_acts : (a n : ℕ) (es : List Event) → filter f (acts a n ++ es) ≡ [] → filter f es ≡ []
  past_acts a zero es h = h
  past_acts a (suc n) es h =
      past_acts (a + 1) n es
      (none_first f (Close a) _ (none_first f (Step a) (Close a ∷ acts (a + 1) n ++ es) h).1).1

  past_openings : (a n : ℕ) (es : List Event) → filter f (openings a n ++ es) ≡ [] → filter f es ≡ []
  past_openings a zero es h = h
  past_openings a (suc n) es h = past_openings (a + 1) n es (none_first f (Open a) (openings (a + 1) n ++ es) h).1

  no_act : (a n i : ℕ) (es : List Event) → filter f (acts a n ++ es) ≡ [] → a ≤ i → i < a + n →
      (f (Step i) ≡ true → ⊥) × (f (Close i) ≡ true → ⊥)
  no_act a zero i es h le lt = absurd (omega arith)
  no_act a (suc n) i es h le lt = go (i == a) refl (λ k l. no_act (a + 1) n i es k l (omega arith))
    where
      step_first : (f (Step a) ≡ true → ⊥) × (filter f (Close a ∷ acts (a + 1) n ++ es) ≡ [])
      step_first = none_first f (Step a) (Close a ∷ acts (a + 1) n ++ es) h

      close_first : (f (Close a) ≡ true → ⊥) × (filter f (acts (a + 1) n ++ es) ≡ [])
      close_first = none_first f (Close a) (acts (a + 1) n ++ es) step_first.1

      go : (v : Bool) → (i == a) ≡ v →
          (filter f (acts (a + 1) n ++ es) ≡ [] → a + 1 ≤ i → (f (Step i) ≡ true → ⊥) × (f (Close i) ≡ true → ⊥)) →
          (f (Step i) ≡ true → ⊥) × (f (Close i) ≡ true → ⊥)
      go true e later =
          let same = eqb-true i a e in (
            λ may. step_first.0 (ap (λ k. f (Step k)) (sym same) ∙ may),
            λ may. close_first.0 (ap (λ k. f (Close k)) (sym same) ∙ may),
          )
      go false e later = later close_first.1 (above a i le (λ same. true≢false (sym (eq-eqb i a same) ∙ e)))

  no_opening : (a n i : ℕ) (es : List Event) → filter f (openings a n ++ es) ≡ [] → a ≤ i → i < a + n →
      f (Open i) ≡ true → ⊥
  no_opening a zero i es h le lt may = absurd (omega arith)
  no_opening a (suc n) i es h le lt may = go (i == a) refl (λ k l. no_opening (a + 1) n i es k l (omega arith) may)
    where
      first : (f (Open a) ≡ true → ⊥) × (filter f (openings (a + 1) n ++ es) ≡ [])
      first = none_first f (Open a) (openings (a + 1) n ++ es) h

      go : (v : Bool) → (i == a) ≡ v → (filter f (openings (a + 1) n ++ es) ≡ [] → a + 1 ≤ i → ⊥) → ⊥
      go true e later = first.0 (ap (λ k. f (Open k)) (sym (eqb-true i a e)) ∙ may)
      go false e later = later first.1 (above a i le (λ same. true≢false (sym (eq-eqb i a same) ∙ e)))

-- an event that may happen is in the list
module _ (p : Plan) (s : State) (none : all_enabled p s ≡ []) where
  abbrev last : List Event
  last = host s.place

  of_openings : filter (enabled p s) (openings 0 (length p.items) ++ last) ≡ []
  of_openings = past_acts (enabled p s) 0 (length p.items) (openings 0 (length p.items) ++ last) none

  of_host : filter (enabled p s) last ≡ []
  of_host = past_openings (enabled p s) 0 (length p.items) last of_openings

  of_item : (i : ℕ) → i < length p.items → (enabled p s (Step i) ≡ true → ⊥) × (enabled p s (Close i) ≡ true → ⊥)
  of_item i lt =
      no_act (enabled p s) 0 (length p.items) i (openings 0 (length p.items) ++ last) none (omega arith) (omega arith)

  none_enabled : (e : Event) → enabled p s e ≡ true → ⊥
  none_enabled (Step i) may =
      let lt = within p i (λ w. has_step (s.condition i)) may in
      (of_item i lt).0 may
  none_enabled (Close i) may =
      let lt = within p i (λ w. is_finished (s.condition i)) may in
      (of_item i lt).1 may
  none_enabled (Open i) may =
      let lt = within p i (λ w. not (is_wait w.kind) && ((w.deferred || (s.place == i)) &&
      (is_waiting w.deferred ((as_whole s).condition i) && is_ready p (as_whole s) i))) may in
      no_opening (enabled p s) 0 (length p.items) i last of_openings (omega arith) (omega arith) may
  none_enabled (Gen i) may =
      let at = (enabled_Gen p (as_whole s) i may).0 in
      (none_first (enabled p s) (Gen s.place) (Wait s.place ∷ End ∷ []) of_host).0
      (ap (λ k. enabled p s (Gen k)) at ∙ may)
  none_enabled (Wait i) may =
      let at = (enabled_Wait p (as_whole s) i may).0 in
      let rest = (none_first (enabled p s) (Gen s.place) (Wait s.place ∷ End ∷ []) of_host).1 in
      (none_first (enabled p s) (Wait s.place) (End ∷ []) rest).0 (ap (λ k. enabled p s (Wait k)) at ∙ may)
  none_enabled End may =
      let rest = (none_first (enabled p s) (Gen s.place) (Wait s.place ∷ End ∷ []) of_host).1 in
      (none_first (enabled p s) End [] (none_first (enabled p s) (Wait s.place) (End ∷ []) rest).1).0 may

-- a program's run of which no event may happen next has ended
pub ends_there : (p : Program) (fill : ℕ → Fill) (order : ℕ → List ℕ) (input : List ℕ) (events : List Event) (s : State) →
    RunFrom (plan p) fill order input events (Some s) → all_enabled (plan p) s ≡ [] → HasEnded (plan p) s
ends_there p fill order input events s ran none = go (s.place == length (plan p).items + 1) refl
  where
    go : (v : Bool) → (s.place == length (plan p).items + 1) ≡ v → HasEnded (plan p) s
    go true e = eqb-true s.place (length (plan p).items + 1) e
    go false e =
        let next = a_run_goes_on p input fill order events s ran
        (λ ended. true≢false (sym (eq-eqb s.place (length (plan p).items + 1) ended) ∙ e)) in
        absurd (none_enabled (plan p) s none next.0 next.1)
