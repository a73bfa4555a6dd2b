-- How far a run by choices has come, and where it ends.
use Rattle.std.proofs.Common.{◌≡◌, ◌⊎◌, inl, inr, ℕ, ◌+◌, ◌%◌, ◌≤◌, List, [], ◌∷◌, ◌++◌, drop, length, refl, sym, ap, ◌∙◌, subst, arith, Some, None, length-append}
use Rattle.std.specs.Prelude.{slice_get}
use Rattle.std.proofs.lemmas.Bool.{cases_eq}
use Rattle.std.proofs.lemmas.Nat.{mod_below}
use Rattle.std.proofs.lemmas.Option.{slice_get-get_or}
use Rattle.base.specs.declared.item.Event.{Event}
use Rattle.base.specs.declared.tree.Program.{Program}
use Rattle.base.specs.Headline.{IsFill}
use Rattle.base.specs.Items.{plan}
use Rattle.base.specs.Map.{Fill}
use Rattle.base.specs.Machine.{first_or_zero}
use Rattle.fine_machine.specs.Machine.{HasEnded, RunFrom, State, all_enabled, run_by_choices, start, step}
use Rattle.stepper.specs.Answering.{HasRun, IsWithin, next_by}
use Rattle.stepper.proofs.Follows.{is_run, run_more}
use Rattle.stepper.proofs.NoneNext.{ends_there}

-- a list from which nothing is picked is empty
none_picked : (xs : List Event) (c : ℕ) → slice_get xs (c % length xs) ≡ None → xs ≡ []
none_picked [] c h = refl
none_picked (x ∷ xs) c h =
    let lt = mod_below c (length (x ∷ xs)) (omega arith) in
    let is = slice_get-get_or (x ∷ xs) (c % length (x ∷ xs)) x lt in
    absurd (cc (h, is))

module _ (p : Program) (input choices : List ℕ) (capacity : ℕ) (fill : ℕ → Fill) (order : ℕ → List ℕ) where
  -- before any event
  pub not_begun : IsFill fill → HasRun p input choices capacity fill order [] (start input)
  not_begun is_fill = record {
    is_fill = is_fill;
    ran = refl;
    within = λ n le.
        let none : n ≡ 0 = omega arith in
        subst (λ k. IsWithin capacity (run_by_choices (plan p) fill order k input choices).state) (sym none)
        (λ d lt. omega arith);
  }

  module _ (h : List Event) (s : State) (run : HasRun p input choices capacity fill order h s) where
    pub is_reached : RunFrom (plan p) fill order input h (Some s)
    is_reached = is_run (plan p) fill order (length h) input choices h (Some s) run.ran

    -- one event more
    pub has_gone_on : (e : Event) (t : State) → next_by (plan p) s (drop (length h) choices) ≡ Some e →
        step (plan p) fill order s e ≡ Some t → IsWithin capacity (Some t) →
        HasRun p input choices capacity fill order (h ++ e ∷ []) t
    has_gone_on e t next is room = record {
      is_fill = run.is_fill;
      ran = now;
      within = λ n le. go n le (cases_eq n (length (h ++ e ∷ [])));
    }
      where
        now : run_by_choices (plan p) fill order (length (h ++ e ∷ [])) input choices
            ≡ record { history = h ++ e ∷ []; state = Some t }
        now = run_more (plan p) fill order input choices h s e run.ran next
            ∙ ap (λ o. record { history = h ++ e ∷ []; state = o }) is

        go : (n : ℕ) → n ≤ length (h ++ e ∷ []) → (n ≡ length (h ++ e ∷ [])) ⊎ (n ≡ length (h ++ e ∷ []) → ⊥) →
            IsWithin capacity (run_by_choices (plan p) fill order n input choices).state
        go n le (inl same) =
            subst (IsWithin capacity)
            (sym (ap (λ k. (run_by_choices (plan p) fill order k input choices).state) same ∙ ap (λ r. r.state) now)) room
        go n le (inr other) =
            let one : length (e ∷ []) ≡ 1 = refl in
            let long : length (h ++ e ∷ []) ≡ length h + length (e ∷ []) = length-append h (e ∷ []) in
            run.within n (omega arith)

    -- where no event is next it has ended
    pub has_ended : (cs : List ℕ) → next_by (plan p) s cs ≡ None → HasEnded (plan p) s
    has_ended cs none =
        ends_there p fill order input h s is_reached (none_picked (all_enabled (plan p) s) (first_or_zero cs) none)
