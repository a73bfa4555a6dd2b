-- A run of an accepted program that takes the first event each time is its run in program order.
use Rattle.std.proofs.Common.{◌≡◌, ◌⊎◌, inl, inr, ℕ, suc, ◌+◌, ◌<◌, ◌≤◌, Bool, true, false, not, ◌&&◌, ◌||◌, ◌==◌, List, [], ◌∷◌, ◌++◌, length, Option, Some, None, refl, sym, ap, ap₂, ◌∙◌, subst, arith, append-nil, append_assoc}
use Rattle.std.specs.Prelude.{if◌then◌else◌, option_map, slice_get}
use Rattle.std.proofs.Math.Nat.{zero-mod}
use Rattle.std.proofs.lemmas.Bool.{true≢false, eqb-true, eqb-false, cases_lt, ne_eqb}
use Rattle.std.proofs.lemmas.Option.{same_Some, slice_get_within}
use Rattle.base.specs.declared.item.Event.{Event}
use Rattle.base.specs.declared.item.Event.TheVariants.{Gen, Open, Close, Wait}
use Rattle.base.specs.Items.{Work, Plan}
use Rattle.base.specs.Map.{Fill, Memories, memories_at}
use Rattle.base.specs.Machine.{State, Condition, Generated, Opened, Run, all_enabled, captured_by, enabled, follow, is_closed, is_open, is_wait, is_waiting, moved_on, on_item, open_item, opening, step, with_condition, with_memories, worked_on}
use Rattle.two_memories.proofs.PlanItems.{at_item}
use Rattle.headline.specs.Stepwise.{item_events}
use Rattle.headline.proofs.FirstEvents.{closed_not_open, closed_not_waiting, done_not_open, first_close, first_gen, first_open, first_wait, no_closing, no_opening}
use Rattle.headline.proofs.ItemRun.{Stands}
use Rattle.headline.proofs.PlainWorks.{Sensible}
use Rattle.headline.proofs.SoundConditions.{Sound}

not_first : (a b c : Bool) → a ≡ false → (a && (b && c)) ≡ false
not_first true b c h = absurd (true≢false h)
not_first false b c h = refl

not_second : (a b c : Bool) → b ≡ false → (a && (b && c)) ≡ false
not_second false b c h = refl
not_second true true c h = absurd (true≢false h)
not_second true false c h = refl

not_third : (a b c : Bool) → c ≡ false → (a && (b && c)) ≡ false
not_third false b c h = refl
not_third true false c h = refl
not_third true true c h = h

not_same : (j i : ℕ) → j < i → (j == i) ≡ false
not_same j i lt = ne_eqb j i (λ e. other j i lt e)
  where
    other : (j i : ℕ) → j < i → j ≡ i → ⊥
    other j i lt e = omega arith

not_here : (place j : ℕ) → j < place → (place == j) ≡ false
not_here place j lt = ne_eqb place j (λ e. other place j lt e)
  where
    other : (place j : ℕ) → j < place → place ≡ j → ⊥
    other place j lt e = omega arith

not_yet : (place j : ℕ) → place < j → (place == j) ≡ false
not_yet place j lt = ne_eqb place j (λ e. other place j lt e)
  where
    other : (place j : ℕ) → place < j → place ≡ j → ⊥
    other place j lt e = omega arith

module _ (pl : Plan) (fill : ℕ → Fill)
    (sensible : (j : ℕ) (w : Work) → slice_get pl.items j ≡ Some w → Sensible w) where
  -- each of these events is the first of those that may happen where it is done
  abbrev pub AllFirst : Option State → List Event → Type 0
  AllFirst o [] = Unit {0}
  AllFirst None (e ∷ es) = Unit {0}
  AllFirst (Some s) (e ∷ es) = (slice_get (all_enabled pl s) 0 ≡ Some e) × AllFirst (step pl fill s e) es

  pub first_append : (o : Option State) (es fs : List Event) (mid : Option State) → Run pl fill o es mid →
      AllFirst o es → AllFirst mid fs → AllFirst o (es ++ fs)
  first_append o [] fs mid r h k = subst (λ m. AllFirst m fs) r k
  first_append None (e ∷ es) fs mid r h k = absurd r
  first_append (Some s) (e ∷ es) fs mid r h k = (h.0, first_append (step pl fill s e) es fs mid r.1 h.1 k)

  -- choices that are used up take them
  pub along : (es : List Event) (o end : Option State) (m : ℕ) (history : List Event) → Run pl fill o es end →
      AllFirst o es → follow pl fill (length es + m) [] history o ≡ follow pl fill m [] (history ++ es) end
  along [] o end m history r h =
      ap₂ (λ (n : ℕ) (u : Option State). follow pl fill n [] history u) (none_more m) (sym r)
      ∙ ap (λ es. follow pl fill m [] es end) (sym (append-nil history))
    where
      none_more : (m : ℕ) → 0 + m ≡ m
      none_more m = omega arith
  along (e ∷ es) None end m history r h = absurd r
  along (e ∷ es) (Some s) end m history r h =
      ap (λ n. follow pl fill n [] history (Some s)) (one_more (length es) m)
      ∙ ap (λ (o : Option Event). elim o [
        | None ↦ record { history = history; state = Some s }
        | Some x ↦ follow pl fill (length es + m) [] (history ++ x ∷ []) (step pl fill s x)
      ]) (ap (slice_get (all_enabled pl s)) (zero-mod (length (all_enabled pl s))) ∙ h.0)
      ∙ along es (step pl fill s e) end m (history ++ e ∷ []) r.1 h.1
      ∙ ap (λ xs. follow pl fill m [] xs end) (append_assoc history (e ∷ []) es)
    where
      one_more : (n m : ℕ) → suc n + m ≡ suc (n + m)
      one_more n m = omega arith

  -- an opening changes its item's condition alone
  opened_keeps : (s u : State) (i : ℕ) (w : Work) → slice_get pl.items i ≡ Some w → step pl fill s (Open i) ≡ Some u →
      (j : ℕ) → (j == i) ≡ false → u.condition j ≡ s.condition j
  opened_keeps s u i w at is j other = go (opening (fill i) w (memories_at w.device s.memories)) refl
    where
      given : Memories → State
      given m = with_condition i (Opened (captured_by (s.condition i) s.scalars) (worked_on pl.lengths w.kind m))
          (with_memories w.device m s)

      stepped : option_map given (opening (fill i) w (memories_at w.device s.memories)) ≡ Some u
      stepped = sym (at_item pl i w at None (λ w. open_item pl (fill i) i w s)) ∙ is

      go : (o : Option Memories) → opening (fill i) w (memories_at w.device s.memories) ≡ o → u.condition j ≡ s.condition j
      go None e = absurd (let bad : None ≡ Some u = sym (ap (option_map given) e) ∙ stepped in cc)
      go (Some m) e =
          let same : given m ≡ u = same_Some (given m) u (sym (ap (option_map given) e) ∙ stepped) in
          ap (λ (t : State). t.condition j) (sym same)
          ∙ ap (λ (b : Bool). if b then Opened (captured_by (s.condition i) s.scalars) (worked_on pl.lengths w.kind m)
          else s.condition j) other

  module _ (i : ℕ) (s : State) (st : Stands pl fill s i) (sound : Sound pl fill sensible s) where
    -- of the items before
    closed_before : (j : ℕ) (v : Work) → j < i → slice_get pl.items j ≡ Some v → v.deferred ≡ true →
        is_closed (s.condition j) ≡ true
    closed_before j v l e d = st.closed j l (at_item pl j v e false (λ w. w.deferred) ∙ d)

    shut_before : (j : ℕ) → j < i → (v : Work) → slice_get pl.items j ≡ Some v → is_open (s.condition j) ≡ false
    shut_before j l v e = go v.deferred refl
      where
        go : (d : Bool) → v.deferred ≡ d → is_open (s.condition j) ≡ false
        go true d = closed_not_open (s.condition j) (closed_before j v l e d)
        go false d = done_not_open (s.condition j) ((sound.items j v e).behind d (let p = st.place in omega arith))

    -- none of them may be opened, at a place behind them
    unopened_before : (place j : ℕ) (c : Condition) → j < i → i ≤ place → c ≡ s.condition j → (v : Work) →
        slice_get pl.items j ≡ Some v →
        (not (is_wait v.kind) && ((v.deferred || (place == j)) && is_waiting v.deferred c)) ≡ false
    unopened_before place j c l le same v e = go v.deferred refl
      where
        go : (d : Bool) → v.deferred ≡ d →
            (not (is_wait v.kind) && ((v.deferred || (place == j)) && is_waiting v.deferred c)) ≡ false
        go true d =
            not_third (not (is_wait v.kind)) (v.deferred || (place == j)) (is_waiting v.deferred c)
            (ap₂ is_waiting d same ∙ closed_not_waiting (s.condition j) (closed_before j v l e d))
        go false d =
            not_second (not (is_wait v.kind)) (v.deferred || (place == j)) (is_waiting v.deferred c)
            (ap₂ ◌||◌ d (not_here place j (omega arith)))

    pub none_closes : (j : ℕ) → enabled pl s (Close j) ≡ false
    none_closes j = no_closing pl s j (λ v e. go j v e (cases_lt j i))
      where
        go : (j : ℕ) (v : Work) → slice_get pl.items j ≡ Some v → (j < i) ⊎ (i ≤ j) → is_open (s.condition j) ≡ false
        go j v e (inl l) = shut_before j l v e
        go j v e (inr le) = ap is_open (st.fresh j le)

    pub none_opens_but : (j : ℕ) → (j ≡ i → ⊥) → enabled pl s (Open j) ≡ false
    none_opens_but j other = no_opening pl s j (λ v e. go j other v e (cases_lt j i))
      where
        above : (j i : ℕ) → (j ≡ i → ⊥) → i ≤ j → i < j
        above j i other le = omega arith

        go : (j : ℕ) → (j ≡ i → ⊥) → (v : Work) → slice_get pl.items j ≡ Some v → (j < i) ⊎ (i ≤ j) →
            (not (is_wait v.kind) && ((v.deferred || (s.place == j)) && is_waiting v.deferred (s.condition j))) ≡ false
        go j other v e (inl l) =
            unopened_before s.place j (s.condition j) l (let p = st.place in omega arith) refl v e
        go j other v e (inr le) = later (above j i other le) v.deferred refl
          where
            later : i < j → (d : Bool) → v.deferred ≡ d →
                (not (is_wait v.kind) && ((v.deferred || (s.place == j)) && is_waiting v.deferred (s.condition j))) ≡ false
            later l true d =
                not_third (not (is_wait v.kind)) (v.deferred || (s.place == j)) (is_waiting v.deferred (s.condition j))
                (ap₂ is_waiting d (st.fresh j (omega arith)))
            later l false d =
                not_second (not (is_wait v.kind)) (v.deferred || (s.place == j)) (is_waiting v.deferred (s.condition j))
                (ap₂ ◌||◌ d (not_yet s.place j (let p = st.place in omega arith)))

    module _ (w : Work) (at_w : slice_get pl.items i ≡ Some w) where
      lt : i < length pl.items
      lt = slice_get_within pl.items i w at_w

      -- the closing that follows an opening
      then_closes : (t : State) → ((j : ℕ) → j < i → t.condition j ≡ s.condition j) → (end : Option State) →
          Run pl fill (step pl fill t (Open i)) (Close i ∷ []) end → AllFirst (step pl fill t (Open i)) (Close i ∷ [])
      then_closes t same end r = go (step pl fill t (Open i)) refl r
        where
          go : (o : Option State) → step pl fill t (Open i) ≡ o → Run pl fill o (Close i ∷ []) end → AllFirst o (Close i ∷ [])
          go None e r = tt
          go (Some u) e r = (
            first_close pl u i lt r.0
                (λ j l. no_closing pl u j (λ v at. ap is_open (opened_keeps t u i w at_w e j (not_same j i l) ∙ same j l)
                ∙ shut_before j l v at)),
            tt,
          )

      -- where it is no wait
      here_first : w.deferred ≡ false → (end : Option State) → Run pl fill (Some s) (Open i ∷ Close i ∷ []) end →
          AllFirst (Some s) (Open i ∷ Close i ∷ [])
      here_first d end r = (
        first_open pl s none_closes i lt r.0 (λ j l. none_opens_but j (λ e. other j i l e)),
        then_closes s (λ j l. refl) end r.1,
      )
        where
          other : (j i : ℕ) → j < i → j ≡ i → ⊥
          other j i l e = omega arith

      abbrev generated : State
      generated = moved_on false (with_condition i (Generated s.scalars) s)

      deferred_first : w.deferred ≡ true → (end : Option State) →
          Run pl fill (Some s) (Gen i ∷ Open i ∷ Close i ∷ []) end → AllFirst (Some s) (Gen i ∷ Open i ∷ Close i ∷ [])
      deferred_first d end r = (
        first_gen pl s none_closes (λ j. none_opens j (j == i) refl) i st.place r.0,
        (
          first_open pl generated none_close_now i lt r.1.0
              (λ j l. no_opening pl generated j (λ v e. unopened_before (s.place + 1) j (generated.condition j) l
              (let p = st.place in omega arith) (kept j l) v e)),
          then_closes generated kept end r.1.1,
        ),
      )
        where
          kept : (j : ℕ) → j < i → generated.condition j ≡ s.condition j
          kept j l = ap (λ (b : Bool). if b then Generated s.scalars else s.condition j) (not_same j i l)

          none_opens : (j : ℕ) (b : Bool) → (j == i) ≡ b → enabled pl s (Open j) ≡ false
          none_opens j false e = none_opens_but j (eqb-false j i e)
          none_opens j true e =
              no_opening pl s j (λ v at.
              not_third (not (is_wait v.kind)) (v.deferred || (s.place == j)) (is_waiting v.deferred (s.condition j))
              (ap₂ is_waiting
              (ap (λ (x : Work). x.deferred)
              (same_Some v w (sym at ∙ ap (slice_get pl.items) (eqb-true j i e) ∙ at_w)) ∙ d)
              (st.fresh j (let k = eqb-true j i e in omega arith))))

          none_close_now : (j : ℕ) → enabled pl generated (Close j) ≡ false
          none_close_now j = no_closing pl generated j (λ v e. go v e (j == i) refl)
            where
              go : (v : Work) → slice_get pl.items j ≡ Some v → (b : Bool) → (j == i) ≡ b →
                  is_open (generated.condition j) ≡ false
              go v e true is = ap (λ (b : Bool). is_open (if b then Generated s.scalars else s.condition j)) is
              go v e false is =
                  ap (λ (b : Bool). is_open (if b then Generated s.scalars else s.condition j)) is ∙ shut v e (cases_lt j i)
                where
                  shut : (v : Work) → slice_get pl.items j ≡ Some v → (j < i) ⊎ (i ≤ j) → is_open (s.condition j) ≡ false
                  shut v e (inl l) = shut_before j l v e
                  shut v e (inr le) = ap is_open (st.fresh j le)

      wait_first : is_wait w.kind ≡ true → (end : Option State) → Run pl fill (Some s) (Wait i ∷ []) end →
          AllFirst (Some s) (Wait i ∷ [])
      wait_first is end r = (
        first_wait pl s none_closes (λ j. none_opens j (j == i) refl) i st.place
            (not_generated (s.place == i)
            (at_item pl i w at_w false (λ w. w.deferred) ∙ (sensible i w at_w).waits is)) r.0,
        tt,
      )
        where
          not_generated : (a : Bool) → on_item pl i false (λ w. w.deferred) ≡ false →
              (a && on_item pl i false (λ w. w.deferred)) ≡ false
          not_generated true h = h
          not_generated false h = refl

          none_opens : (j : ℕ) (b : Bool) → (j == i) ≡ b → enabled pl s (Open j) ≡ false
          none_opens j false e = none_opens_but j (eqb-false j i e)
          none_opens j true e =
              no_opening pl s j (λ v at.
              not_first (not (is_wait v.kind)) (v.deferred || (s.place == j)) (is_waiting v.deferred (s.condition j))
              (ap (λ (x : Work). not (is_wait x.kind))
              (same_Some v w (sym at ∙ ap (slice_get pl.items) (eqb-true j i e) ∙ at_w)) ∙ ap not is))

      pub item_first : (end : Option State) → Run pl fill (Some s) (item_events (is_wait w.kind) w.deferred i) end →
          AllFirst (Some s) (item_events (is_wait w.kind) w.deferred i)
      item_first end r = go (is_wait w.kind) refl w.deferred refl r
        where
          go : (b : Bool) → is_wait w.kind ≡ b → (d : Bool) → w.deferred ≡ d → Run pl fill (Some s) (item_events b d i) end →
              AllFirst (Some s) (item_events b d i)
          go true is d def r = wait_first is end r
          go false is true def r = deferred_first def end r
          go false is false def r = here_first def end r
