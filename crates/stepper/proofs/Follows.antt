-- A run by choices, event by event.
use Rattle.std.proofs.Common.{◌≡◌, ℕ, zero, suc, ◌+◌, ◌%◌, true, List, [], ◌∷◌, ◌++◌, drop, map, length, refl, sym, ap, ◌∙◌, subst, arith, Option, Some, None, add-one, length-append, append-nil, append_assoc}
use Rattle.std.specs.Prelude.{flat_map}
use Rattle.std.specs.List.{range_with_len}
use Rattle.base.specs.declared.item.Event.{Event}
use Rattle.base.specs.declared.item.Event.TheVariants.{Gen, Open, Step, Close, Wait, End}
use Rattle.base.specs.Items.{Plan}
use Rattle.base.specs.Map.{Fill}
use Rattle.base.specs.Machine.{first_or_zero, rest_of}
use Rattle.device.proofs.Choices.{filter_holds}
use Rattle.fine_machine.specs.Machine.{Played, Run, RunFrom, State, all_enabled, enabled, follow, run_by_choices, start, step}
use Rattle.stepper.specs.Answering.{next_by}

drop_rest : (cs : List ℕ) (k : ℕ) → drop k (rest_of cs) ≡ drop (suc k) cs
drop_rest [] zero = refl
drop_rest [] (suc k) = refl
drop_rest (c ∷ cs) k = refl

abbrev played : List Event → Option State → Played
played history o = record { history = history; state = o }

-- the events of which some may happen next
abbrev pub candidates : Plan → State → List Event
candidates pl s =
    let all = range_with_len 0 (length pl.items) in
    flat_map (λ i. Step i ∷ Close i ∷ []) all ++ (map Open all ++ (Gen s.place ∷ Wait s.place ∷ End ∷ []))

-- a run that failed does not go on
failed_stays : (h g : List Event) (s : State) → played h None ≡ played g (Some s) → ⊥
failed_stays h g s e = absurd (cc (ap (λ (p : Played). p.state) e))

module _ (pl : Plan) (fill : ℕ → Fill) (order : ℕ → List ℕ) where
  -- an event that is picked may happen
  pub may_happen : (s : State) (cs : List ℕ) (e : Event) → next_by pl s cs ≡ Some e → enabled pl s e ≡ true
  may_happen s cs e at =
      filter_holds (enabled pl s) (candidates pl s) (first_or_zero cs % length (all_enabled pl s)) e at

  none_more : (cs : List ℕ) (h : List Event) (o : Option State) → follow pl fill order zero cs h o ≡ played h o
  none_more cs h None = refl
  none_more cs h (Some s) = refl

  -- the run where this event is picked, or none
  abbrev picked : ℕ → List ℕ → List Event → State → Option Event → Played
  picked n cs h s o = elim o [
    | None ↦ record { history = h; state = Some s }
    | Some e ↦ follow pl fill order n (rest_of cs) (h ++ e ∷ []) (step pl fill order s e)
  ]

  one_step : (n : ℕ) (cs : List ℕ) (h : List Event) (s : State) (e : Event) → next_by pl s cs ≡ Some e →
      follow pl fill order (suc n) cs h (Some s) ≡ follow pl fill order n (rest_of cs) (h ++ e ∷ []) (step pl fill order s e)
  one_step n cs h s e at = ap (picked n cs h s) at

  -- where the first n events of a run were done, one more is the next that the choices take
  follow_next : (n : ℕ) (cs : List ℕ) (h h' : List Event) (s0 s : State) (e : Event) →
      follow pl fill order n cs h (Some s0) ≡ played h' (Some s) → length h' ≡ length h + n →
      next_by pl s (drop n cs) ≡ Some e →
      follow pl fill order (suc n) cs h (Some s0) ≡ played (h' ++ e ∷ []) (step pl fill order s e)
  follow_next zero cs h h' s0 s e ran long at =
      let same : h ≡ h' = ap (λ (p : Played). p.history) ran in
      let now : Some s0 ≡ Some s = ap (λ (p : Played). p.state) ran in
      let here : s0 ≡ s = cc now in
      one_step zero cs h s0 e (ap (λ u. next_by pl u cs) here ∙ at)
      ∙ none_more (rest_of cs) (h ++ e ∷ []) (step pl fill order s0 e)
      ∙ (λ j. played (same j ++ e ∷ []) (step pl fill order (here j) e))
  follow_next (suc n) cs h h' s0 s e ran long at =
      go (λ g t r l. follow_next n (rest_of cs) g h' t s e r l (ap (next_by pl s) (drop_rest cs n) ∙ at))
      (next_by pl s0 cs) refl
    where
      Later : Type 0
      Later = (g : List Event) (t : State) → follow pl fill order n (rest_of cs) g (Some t) ≡ played h' (Some s) →
          length h' ≡ length g + n →
          follow pl fill order (suc n) (rest_of cs) g (Some t) ≡ played (h' ++ e ∷ []) (step pl fill order s e)

      after : Later → (d : Event) (o : Option State) →
          follow pl fill order n (rest_of cs) (h ++ d ∷ []) o ≡ played h' (Some s) →
          follow pl fill order (suc n) (rest_of cs) (h ++ d ∷ []) o ≡ played (h' ++ e ∷ []) (step pl fill order s e)
      after later d None r = absurd (failed_stays (h ++ d ∷ []) h' s r)
      after later d (Some t) r =
          let one : length (d ∷ []) ≡ 1 = refl in
          let more : length (h ++ d ∷ []) ≡ length h + length (d ∷ []) = length-append h (d ∷ []) in
          later (h ++ d ∷ []) t r (omega (arith, one, more, long))

      go : Later → (o : Option Event) → next_by pl s0 cs ≡ o →
          follow pl fill order (suc (suc n)) cs h (Some s0) ≡ played (h' ++ e ∷ []) (step pl fill order s e)
      go later None is =
          let stopped : h ≡ h' = ap (λ (p : Played). p.history) (sym (ap (picked n cs h s0) is) ∙ ran) in
          let same : length h ≡ length h' = ap (λ (es : List Event). length es) stopped in
          absurd (omega (arith, same, long))
      go later (Some d) is =
          one_step (suc n) cs h s0 d is ∙ after later d (step pl fill order s0 d) (sym (one_step n cs h s0 d is) ∙ ran)

  pub follow_more : (n : ℕ) (cs : List ℕ) (h h' : List Event) (s0 s : State) (e : Event) →
      follow pl fill order n cs h (Some s0) ≡ played h' (Some s) → length h' ≡ length h + n →
      next_by pl s (drop n cs) ≡ Some e →
      follow pl fill order (n + 1) cs h (Some s0) ≡ played (h' ++ e ∷ []) (step pl fill order s e)
  follow_more n cs h h' s0 s e ran long at =
      ap (λ m. follow pl fill order m cs h (Some s0)) (add-one n) ∙ follow_next n cs h h' s0 s e ran long at

  -- a run of so many events as its history has, and the next
  pub run_more : (input cs : List ℕ) (h : List Event) (s : State) (e : Event) →
      run_by_choices pl fill order (length h) input cs ≡ played h (Some s) → next_by pl s (drop (length h) cs) ≡ Some e →
      run_by_choices pl fill order (length (h ++ e ∷ [])) input cs ≡ played (h ++ e ∷ []) (step pl fill order s e)
  run_more input cs h s e ran at =
      let one : length (e ∷ []) ≡ 1 = refl in
      let zero_more : length h ≡ 0 + length h = omega arith in
      let long : length (h ++ e ∷ []) ≡ length h + length (e ∷ []) = length-append h (e ∷ []) in
      ap (λ n. run_by_choices pl fill order n input cs) long
      ∙ follow_more (length h) cs [] h (start input) s e ran zero_more at

  -- what a run by choices did is a run
  runs_on : (n : ℕ) (cs : List ℕ) (h h' : List Event) (o end : Option State) → follow pl fill order n cs h o ≡ played h' end →
      (es : List Event) × (h' ≡ h ++ es) × Run pl fill order o es end
  runs_on n cs h h' None end e =
      ([], sym (ap (λ (p : Played). p.history) e) ∙ sym (append-nil h), sym (ap (λ (p : Played). p.state) e))
  runs_on zero cs h h' (Some s) end e =
      ([], sym (ap (λ (p : Played). p.history) e) ∙ sym (append-nil h), sym (ap (λ (p : Played). p.state) e))
  runs_on (suc n) cs h h' (Some s) end e =
      go (λ d r. runs_on n (rest_of cs) (h ++ d ∷ []) h' (step pl fill order s d) end r) (next_by pl s cs) refl
    where
      Later : Type 0
      Later = (d : Event) → follow pl fill order n (rest_of cs) (h ++ d ∷ []) (step pl fill order s d) ≡ played h' end →
          (es : List Event) × (h' ≡ (h ++ d ∷ []) ++ es) × Run pl fill order (step pl fill order s d) es end

      go : Later → (o : Option Event) → next_by pl s cs ≡ o →
          (es : List Event) × (h' ≡ h ++ es) × Run pl fill order (Some s) es end
      go later None is =
          let same : played h (Some s) ≡ played h' end = sym (ap (picked n cs h s) is) ∙ e in
          ([], sym (ap (λ (p : Played). p.history) same) ∙ sym (append-nil h), sym (ap (λ (p : Played). p.state) same))
      go later (Some d) is =
          let r = later d (sym (one_step n cs h s d is) ∙ e) in
          (d ∷ r.0, r.1 ∙ append_assoc h (d ∷ []) r.0, (may_happen s cs d is, r.2))

  pub is_run : (n : ℕ) (input cs : List ℕ) (h : List Event) (o : Option State) →
      run_by_choices pl fill order n input cs ≡ played h o → RunFrom pl fill order input h o
  is_run n input cs h o e =
      let r = runs_on n cs [] h (Some (start input)) o e in
      subst (λ (es : List Event). Run pl fill order (Some (start input)) es o) (sym r.1) r.2
