-- A run by choices, event by event.
use Rattle.std.proofs.Common.{◌≡◌, ℕ, zero, suc, ◌+◌, ◌-◌, ◌*◌, ◌%◌, ◌<◌, ◌≤◌, Bool, true, false, List, [], ◌∷◌, ◌++◌, drop, map, length, refl, sym, ap, ◌∙◌, subst, arith, Option, Some, None, add-one, length-append}
use Rattle.std.specs.Prelude.{◌==◌, ◌&&◌, ◌||◌, not, cond, filter, slice_get}
use Rattle.std.specs.List.{range_with_len}
use Rattle.std.proofs.lemmas.Bool.{true≢false, false≢true, eq-eqb, eqb-true}
use Rattle.std.proofs.lemmas.Nat.{mod_below}
use Rattle.std.proofs.lemmas.Option.{slice_get-get_or}
use Rattle.std.proofs.lemmas.List.Elements.{filter-append}
use Rattle.base.specs.declared.tree.Program.{Program}
use Rattle.base.specs.declared.item.Event.{Event}
use Rattle.base.specs.declared.item.Event.TheVariants.{Gen, Open, Step, Close, Wait, End}
use Rattle.base.specs.declared.fault.RunFault.{RunFault}
use Rattle.base.specs.declared.fault.RunFault.TheVariants as fault
use Rattle.base.specs.Items.{Plan, plan}
use Rattle.base.specs.Map.{Fill}
use Rattle.base.specs.Machine.{State, HasEnded, Played, all_enabled, enabled, first_or_zero, follow, is_open, is_ready, is_wait, is_waiting, rest_of, step}
use Rattle.base.proofs.Runs.{enabled_Gen, enabled_Wait}
use Rattle.headline.proofs.NeverStuck.{a_run_goes_on}
use Rattle.two_memories.proofs.PlanItems.{within}
use Rattle.device.specs.Choosing.{FewEvents, NothingAfterTheEnd, NothingOnlyAtTheEnd, GoesOnBy, IsPlayed, IsStopped, IsNextFault, gone_on, most_events, next_by}
use Rattle.device.specs.Run.{Run, fill_in, state_of}
use Rattle.device.specs.Running.{IsReached}
use Rattle.device.specs.Taking.{IsEventFault, Takes}
use Rattle.device.proofs.Allowing.{candidates, none_next}
use Rattle.device.proofs.EventBounds as bounds

-- of a list of which no element passes
none_in : {A : Type 0} (p : A → Bool) (xs : List A) (k : ℕ) (x : A) → filter p xs ≡ [] → slice_get xs k ≡ Some x →
    p x ≡ true → ⊥
none_in p [] k x h at may = absurd (cc at)
none_in {A} p (y ∷ ys) k x h at may = go (p y) refl h k at (λ l e g. none_in p ys l x e g may)
  where
    go : (b : Bool) → p y ≡ b → cond b (y ∷ filter p ys) (filter p ys) ≡ [] → (k : ℕ) →
        slice_get (y ∷ ys) k ≡ Some x → ((l : ℕ) → filter p ys ≡ [] → slice_get ys l ≡ Some x → ⊥) → ⊥
    go true e h k at later = absurd (cc h)
    go false e h zero at later =
        let same : y ≡ x = cc in absurd (true≢false (sym may ∙ ap p (sym same) ∙ e))
    go false e h (suc k) at later = later k h at

none_of : (p : Event → Bool) (f : ℕ → Event) (a n i : ℕ) → filter p (map f (range_with_len a n)) ≡ [] → a ≤ i →
    i < a + n → p (f i) ≡ true → ⊥
none_of p f a zero i h le lt may = absurd (omega arith)
none_of p f a (suc n) i h le lt may =
    go (p (f a)) refl h (λ k l. none_of p f (a + 1) n i k l (omega arith) may)
  where
    above : (a i : ℕ) → a ≤ i → (i ≡ a → ⊥) → a + 1 ≤ i
    above a i le other = omega arith

    go : (b : Bool) → p (f a) ≡ b → cond b (f a ∷ filter p (map f (range_with_len (a + 1) n)))
        (filter p (map f (range_with_len (a + 1) n))) ≡ [] →
        (filter p (map f (range_with_len (a + 1) n)) ≡ [] → a + 1 ≤ i → ⊥) → ⊥
    go true e h later = absurd (cc h)
    go false e h later = later h (above a i le (λ same. true≢false (sym may ∙ ap (λ k. p (f k)) same ∙ e)))

both_none : {A : Type 0} (xs ys : List A) → xs ++ ys ≡ [] → (xs ≡ []) × (ys ≡ [])
both_none [] ys h = (refl, h)
both_none (x ∷ xs) ys h = absurd (cc h)

-- an event that may happen is in the list
module _ (pl : Plan) (s : State) (none : all_enabled pl s ≡ []) where
  count : ℕ
  count = length pl.items

  abbrev last : List Event
  last = Gen s.place ∷ Wait s.place ∷ End ∷ []

  abbrev openings : List Event
  openings = map Open (range_with_len 0 (length pl.items))

  abbrev closings : List Event
  closings = map Close (range_with_len 0 (length pl.items))

  parts : (filter (enabled pl s) closings ≡ []) × (filter (enabled pl s) (openings ++ last) ≡ [])
  parts = both_none _ _ (sym (filter-append (enabled pl s) closings (openings ++ last)) ∙ none)

  later_parts : (filter (enabled pl s) openings ≡ []) × (filter (enabled pl s) last ≡ [])
  later_parts = both_none _ _ (sym (filter-append (enabled pl s) openings last) ∙ parts.1)

  none_enabled : (e : Event) → enabled pl s e ≡ true → ⊥
  none_enabled (Step i) may = absurd (false≢true may)
  none_enabled (Close i) may =
      let lt = within pl i (λ w. is_open (s.condition i)) may in
      none_of (enabled pl s) Close 0 (length pl.items) i parts.0 (omega arith) (omega arith) may
  none_enabled (Open i) may =
      let lt = within pl i (λ w. not (is_wait w.kind) && ((w.deferred || (s.place == i)) &&
      (is_waiting w.deferred (s.condition i) && is_ready pl s i))) may in
      none_of (enabled pl s) Open 0 (length pl.items) i later_parts.0 (omega arith) (omega arith) may
  none_enabled (Gen i) may =
      let at = (enabled_Gen pl s i may).0 in
      none_in (enabled pl s) last 0 (Gen i) later_parts.1 (ap (λ k. Some (Gen k)) at) may
  none_enabled (Wait i) may =
      let at = (enabled_Wait pl s i may).0 in
      none_in (enabled pl s) last 1 (Wait i) later_parts.1 (ap (λ k. Some (Wait k)) at) may
  none_enabled End may = none_in (enabled pl s) last 2 End later_parts.1 refl may

pub few_events : FewEvents
few_events = bounds.few_events

pub nothing_after_the_end : NothingAfterTheEnd
nothing_after_the_end pl fill input events s ran ended =
    none_next pl s (bounds.nothing_after pl fill input events s ran ended)

pub nothing_only_at_the_end : NothingOnlyAtTheEnd
nothing_only_at_the_end p fill input events s ran none = go (s.place == length (plan p).items + 1) refl
  where
    go : (b : Bool) → (s.place == length (plan p).items + 1) ≡ b → HasEnded (plan p) s
    go true e = eqb-true s.place (length (plan p).items + 1) e
    go false e =
        let next = a_run_goes_on p input fill events s ran
        (λ ended. true≢false (sym (eq-eqb s.place (length (plan p).items + 1) ended) ∙ e)) in
        absurd (none_enabled (plan p) s none next.0 next.1)

-- a list from which nothing is picked is empty
none_picked : (xs : List Event) (c : ℕ) → slice_get xs (c % length xs) ≡ None → xs ≡ []
none_picked [] c h = refl
none_picked (x ∷ xs) c h =
    let lt = mod_below c (length (x ∷ xs)) (omega arith) in
    let is = slice_get-get_or (x ∷ xs) (c % length (x ∷ xs)) x lt in
    absurd (cc (h, is))

pub filter_holds : {A : Type 0} (f : A → Bool) (xs : List A) (k : ℕ) (x : A) → slice_get (filter f xs) k ≡ Some x →
    f x ≡ true
filter_holds f [] k x e = absurd cc
filter_holds {A} f (y ∷ ys) k x e = go (f y) refl (λ j h. filter_holds f ys j x h) k e
  where
    go : (b : Bool) → f y ≡ b → ((j : ℕ) → slice_get (filter f ys) j ≡ Some x → f x ≡ true) → (k : ℕ) →
        slice_get (cond b (y ∷ filter f ys) (filter f ys)) k ≡ Some x → f x ≡ true
    go false is later k e = later k e
    go true is later zero e = let same : y ≡ x = cc in ap f (sym same) ∙ is
    go true is later (suc k) e = later k e

rest_at : (cs : List ℕ) (k : ℕ) → rest_of (drop k cs) ≡ drop (k + 1) cs
rest_at cs k = from cs k ∙ ap (λ m. drop m cs) (sym (add-one k))
  where
    from : (cs : List ℕ) (k : ℕ) → rest_of (drop k cs) ≡ drop (suc k) cs
    from [] zero = refl
    from [] (suc k) = refl
    from (c ∷ cs) zero = refl
    from (c ∷ cs) (suc k) = from cs k

module _ (pl : Plan) (fill : ℕ → Fill) (n : ℕ) (cs : List ℕ) (history : List Event) (s : State) where
  follow_step : (e : Event) → slice_get (all_enabled pl s) (first_or_zero cs % length (all_enabled pl s)) ≡ Some e →
      follow pl fill (suc n) cs history (Some s) ≡ follow pl fill n (rest_of cs) (history ++ e ∷ []) (step pl fill s e)
  follow_step e at = ap (λ o. elim o [
    | None ↦ record { history = history; state = Some s }
    | Some e ↦ follow pl fill n (rest_of cs) (history ++ e ∷ []) (step pl fill s e)
  ]) at

pub follow_stop : (pl : Plan) (fill : ℕ → Fill) (n : ℕ) (cs : List ℕ) (history : List Event) (s : State) →
    all_enabled pl s ≡ [] → follow pl fill n cs history (Some s) ≡ record { history = history; state = Some s }
follow_stop pl fill zero cs history s none = refl
follow_stop pl fill (suc n) cs history s none = ap (λ next. stopped (slice_get next (first_or_zero cs % length next))) none
  where
    stopped : Option Event → Played
    stopped o = elim o [
      | None ↦ record { history = history; state = Some s }
      | Some e ↦ follow pl fill n (rest_of cs) (history ++ e ∷ []) (step pl fill s e)
    ]

-- a run that has gone on by choices, of which k were used
pub record HasCome (k : ℕ) (choices : List ℕ) (old new : Run) : Type 0 where
  pub program : new.program ≡ old.program
  pub input : new.input ≡ old.input
  pub capacity : new.capacity ≡ old.capacity
  pub fresh : new.fresh ≡ old.fresh
  pub goes : (m : ℕ) → gone_on old (k + m) choices ≡ gone_on new m (drop k choices)
  pub long : k ≤ length new.history

pub comes_from : (choices : List ℕ) (r : Run) → HasCome 0 choices r r
comes_from choices r = record {
  program = refl;
  input = refl;
  capacity = refl;
  fresh = refl;
  goes = λ m. ap (λ n. gone_on r n choices) (let e : 0 + m ≡ m = omega arith in e);
  long = omega arith;
}

pub one_more_choice : (k : ℕ) (choices : List ℕ) (old now new : Run) (e : Event) → HasCome k choices old now →
    next_by now (drop k choices) ≡ Some e → Takes now e new → HasCome (k + 1) choices old new
one_more_choice k choices old now new e h next t = record {
  program = t.program ∙ h.program;
  input = t.input ∙ h.input;
  capacity = t.capacity ∙ h.capacity;
  fresh = t.fresh ∙ h.fresh;
  goes = λ m. ap (λ n. gone_on old n choices) (let e : k + 1 + m ≡ k + suc m = omega arith in e) ∙ h.goes (suc m)
      ∙ follow_step (plan now.program) (fill_in now) m (drop k choices) now.history (state_of now) e next
      ∙ (λ j. follow (plan (sym t.program j)) (λ i c. sym t.fresh j) m (rest_at choices k j) (sym t.history j)
      (t.stepped j));
  long =
      let one : length (e ∷ []) ≡ 1 = refl in
      let more : length new.history ≡ length now.history + length (e ∷ []) =
      ap (λ (es : List Event). length es) t.history ∙ length-append now.history (e ∷ []) in
      let l = h.long in
      omega arith;
}

module _ (k : ℕ) (choices : List ℕ) (old now : Run) (h : HasCome k choices old now) where
  -- as far as it has come
  pub so_far : GoesOnBy k choices old now
  so_far = record {
    program = h.program;
    input = h.input;
    capacity = h.capacity;
    fresh = h.fresh;
    by_choices = ap (λ n. gone_on old n choices) (let e : k ≡ k + 0 = omega arith in e) ∙ h.goes 0;
  }

  pub stops : (f : RunFault) → IsNextFault now (drop k choices) f → IsStopped choices old now f
  stops f why = record { events = k; goes = so_far; fault = why }

  module _ (reached : IsReached now) where
    pub played : k ≤ most_events old → HasEnded (plan now.program) (state_of now) → IsPlayed choices old now
    played le ended = record {
      goes = record {
        program = h.program;
        input = h.input;
        capacity = h.capacity;
        fresh = h.fresh;
        by_choices =
            ap (λ n. gone_on old n choices) (split k (most_events old) le)
            ∙ h.goes (most_events old - k)
            ∙ follow_stop (plan now.program) (fill_in now) (most_events old - k) (drop k choices) now.history (state_of now)
            (nothing_after_the_end (plan now.program) (fill_in now) now.input now.history (state_of now) reached.ran ended);
      };
      ended = ended;
    }
      where
        split : (k n : ℕ) → k ≤ n → n ≡ k + (n - k)
        split k n le = omega arith

    -- where nothing is picked the run has ended
    pub ends_here : k ≤ most_events old → next_by now (drop k choices) ≡ None → IsPlayed choices old now
    ends_here le none =
        played le
        (nothing_only_at_the_end now.program (fill_in now) now.input now.history (state_of now) reached.ran
        (none_picked (all_enabled (plan now.program) (state_of now)) _ none))

    -- after as many events as a run has it has ended
    pub ends_at_most : most_events old ≤ k → k ≤ most_events old → IsPlayed choices old now
    ends_at_most ge le = played le (go ((state_of now).place == length (plan now.program).items + 1) refl)
      where
        go : (b : Bool) → ((state_of now).place == length (plan now.program).items + 1) ≡ b →
            HasEnded (plan now.program) (state_of now)
        go true e = eqb-true (state_of now).place (length (plan now.program).items + 1) e
        go false e =
            let few = few_events (plan now.program) (fill_in now) now.input now.history (state_of now) reached.ran
            (λ ended. true≢false
            (sym (eq-eqb (state_of now).place (length (plan now.program).items + 1) ended) ∙ e)) in
            let same : most_events now ≡ most_events old = ap (λ (p : Program). 3 * length (plan p).items + 1) h.program in
            let long = h.long in
            absurd (omega arith)

  -- an event that is picked may happen
  pub may_happen : (e : Event) → next_by now (drop k choices) ≡ Some e →
      enabled (plan now.program) (state_of now) e ≡ true
  may_happen e next =
      filter_holds (enabled (plan now.program) (state_of now)) (candidates (plan now.program) (state_of now))
      (first_or_zero (drop k choices) % length (all_enabled (plan now.program) (state_of now))) e next

  -- why it is not done
  pub why : (e : Event) → next_by now (drop k choices) ≡ Some e → (f : RunFault) → IsEventFault now e f →
      IsNextFault now (drop k choices) f
  why (Open i) next fault.OutOfMemory w = tt
  why (Open i) next fault.DeviceFull w = record { item = i; next = next; over = w }
  why (Open i) next fault.Absent w = w
  why (Open i) next fault.Stranger w = w
  why (Open i) next fault.ThreadNotStarted w = w
  why (Open i) next fault.OtherState w = w
  why (Open i) next fault.RangeRefused w = w
  why (Gen i) next f w = subst (IsNextFault now (drop k choices)) (sym w) tt
  why (Step i) next f w = absurd w
  why (Close i) next f w = subst (IsNextFault now (drop k choices)) (sym w) tt
  why (Wait i) next f w = subst (IsNextFault now (drop k choices)) (sym w) tt
  why End next f w = subst (IsNextFault now (drop k choices)) (sym w) tt
