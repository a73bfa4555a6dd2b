-- The run of an accepted program by no choices.
use Rattle.std.proofs.Common.{◌≡◌, ℕ, zero, suc, ◌+◌, ◌≤◌, Bool, true, false, ◌&&◌, ◌==◌, List, [], ◌∷◌, ◌++◌, take, drop, length, Option, Some, None, refl, sym, ap, ◌∙◌, subst, arith, zero-add}
use Rattle.std.specs.Prelude.{slice_get}
use Rattle.std.proofs.lemmas.Bool.{eqb-true, eqb-false}
use Rattle.std.proofs.lemmas.List.{take-append-drop}
use Rattle.std.proofs.Math.Seq.{take-length}
use Rattle.std.proofs.lemmas.Option.{same_Some, slice_get_past}
use Rattle.base.specs.declared.item.Event.{Event}
use Rattle.base.specs.declared.item.Event.TheVariants.{Open, Close, Wait, End}
use Rattle.base.specs.declared.tree.Program.{Program}
use Rattle.base.specs.Accepted.{IsAccepted}
use Rattle.base.specs.Headline.{AreNumbers}
use Rattle.base.specs.Items.{Work, Plan, plan}
use Rattle.base.specs.Map.{Fill}
use Rattle.base.specs.Meaning.{lengths_of}
use Rattle.base.specs.Machine.{State, Run, enabled, follow, is_wait, on_item, start}
use Rattle.two_memories.proofs.PlanItems.{at_none}
use Rattle.headline.specs.Stepwise.{events_from, item_events, program_order}
use Rattle.headline.proofs.FirstEvents.{first_end, no_opening}
use Rattle.headline.proofs.InOrder.{AllFirst, along, first_append, item_first, none_closes, none_opens_but}
use Rattle.headline.proofs.ItemRun.{Stands}
use Rattle.headline.proofs.NeverStuck.{sensible_at}
use Rattle.headline.proofs.PlainWorks.{Sensible, list_sensible}
use Rattle.headline.proofs.ProgramChain.{events_more, state_at, first_run, next_run, end_state, end_run}
use Rattle.headline.proofs.ProgramOrder.{first_items_run, program_order_is_right}
use Rattle.headline.proofs.SoundConditions.{Sound, run_sound, start_sound}

length_taken : {A : Type 0} (k : ℕ) (xs : List A) → k ≤ length xs → length (take k xs) ≡ k
length_taken zero xs h = refl
length_taken (suc k) [] h = absurd (omega arith)
length_taken (suc k) (x ∷ xs) h = ap suc (length_taken k xs (omega arith))

module _ (p : Program) (accepted : IsAccepted (plan p)) (input : List ℕ) (fill : ℕ → Fill)
    (numbers : AreNumbers input) where
  abbrev pl : Plan
  pl = plan p

  sensible : (j : ℕ) (w : Work) → slice_get pl.items j ≡ Some w → Sensible w
  sensible = sensible_at pl.items (list_sensible (lengths_of p) p.body.items)

  abbrev at : ℕ → State
  at = state_at p accepted input fill numbers

  stands_at : (k : ℕ) → k ≤ length pl.items → Stands pl fill (at k) k
  stands_at k le =
      subst (λ n. Stands pl fill (at k) n) (zero-add (length (take k pl.items)) ∙ length_taken k pl.items le)
      (first_items_run p accepted input fill numbers (take k pl.items) (drop k pl.items)
      (sym (take-append-drop k pl.items))).stands

  sound_at : (k : ℕ) → Sound pl fill sensible (at k)
  sound_at k =
      run_sound pl fill sensible (events_from 0 (take k pl.items)) (Some (start input)) (at k)
      (λ u e. subst (λ (x : State). Sound pl fill sensible x) (same_Some (start input) u e)
      (start_sound pl fill sensible input))
      (first_run p accepted input fill numbers k)

  upto : (k : ℕ) → k ≤ length pl.items →
      AllFirst pl fill sensible (Some (start input)) (events_from 0 (take k pl.items))
  upto zero le = tt
  upto (suc k) le = go (slice_get pl.items k) refl (upto k (omega arith))
    where
      past : (xs : List Work) (k : ℕ) → suc k ≤ length xs → slice_get xs k ≡ None → ⊥
      past [] k h e = absurd (omega arith)
      past (x ∷ xs) zero h e = cc e
      past (x ∷ xs) (suc k) h e = past xs k (omega arith) e

      go : (o : Option Work) → slice_get pl.items k ≡ o →
          AllFirst pl fill sensible (Some (start input)) (events_from 0 (take k pl.items)) →
          AllFirst pl fill sensible (Some (start input)) (events_from 0 (take (suc k) pl.items))
      go None e before = absurd (past pl.items k le e)
      go (Some w) e before =
          subst (λ (es : List Event). AllFirst pl fill sensible (Some (start input)) es)
          (sym (events_more pl.items 0 k w e
          ∙ ap (λ n. events_from 0 (take k pl.items) ++ item_events (is_wait w.kind) w.deferred n) (zero-add k)))
          (first_append pl fill sensible (Some (start input)) (events_from 0 (take k pl.items))
          (item_events (is_wait w.kind) w.deferred k) (Some (at k)) (first_run p accepted input fill numbers k)
          before
          (item_first pl fill sensible k (at k) (stands_at k (omega arith)) (sound_at k) w e (Some (at (suc k)))
          (next_run p accepted input fill numbers k w e)))

  last_first : AllFirst pl fill sensible (Some (at (length pl.items))) (End ∷ [])
  last_first = (
    first_end pl s closes (λ j. opens j (j == n) refl) n st.place (none_there n (s.place == n) (λ w. w.deferred) past)
        (no_wait (s.place == n)) (end_run p accepted input fill numbers).0,
    tt,
  )
    where
      n : ℕ
      n = length pl.items

      s : State
      s = at n

      same : (n : ℕ) → n ≤ n
      same n = omega arith

      past : slice_get pl.items n ≡ None
      past = slice_get_past pl.items n (same n)

      st : Stands pl fill s n
      st = stands_at n (same n)

      closes : (j : ℕ) → enabled pl s (Close j) ≡ false
      closes = none_closes pl fill sensible n s st (sound_at n)

      none_there : (i : ℕ) (a : Bool) (f : Work → Bool) → slice_get pl.items i ≡ None → (a && on_item pl i false f) ≡ false
      none_there i true f e = at_none pl i e false f
      none_there i false f e = refl

      no_wait : (a : Bool) → enabled pl s (Wait n) ≡ false
      no_wait a = go (s.place == n) (on_item pl n false (λ w. is_wait w.kind)) _ (at_none pl n past false (λ w. is_wait w.kind))
        where
          go : (a b c : Bool) → b ≡ false → (a && (b && c)) ≡ false
          go false b c h = refl
          go true false c h = refl
          go true true c h = absurd (cc h)

      opens : (j : ℕ) (b : Bool) → (j == n) ≡ b → enabled pl s (Open j) ≡ false
      opens j false e = none_opens_but pl fill sensible n s st (sound_at n) j (eqb-false j n e)
      opens j true e =
          no_opening pl s j
          (λ v is. absurd (let bad : None ≡ Some v = sym past ∙ ap (slice_get pl.items) (sym (eqb-true j n e)) ∙ is in cc))

  -- as many events as the run in program order has
  pub by_first : (m : ℕ) → follow pl fill (length (program_order pl) + m) [] [] (Some (start input))
      ≡ follow pl fill m [] (program_order pl) (Some (end_state p accepted input fill numbers))
  by_first m =
      along pl fill sensible (program_order pl) (Some (start input)) (Some (end_state p accepted input fill numbers)) m []
      (program_order_is_right p accepted input fill numbers).run
      (first_append pl fill sensible (Some (start input)) (events_from 0 pl.items) (End ∷ [])
      (Some (at (length pl.items))) whole first last_first)
    where
      all : take (length pl.items) pl.items ≡ pl.items
      all = take-length pl.items

      same : (n : ℕ) → n ≤ n
      same n = omega arith

      whole : Run pl fill (Some (start input)) (events_from 0 pl.items) (Some (at (length pl.items)))
      whole =
          subst (λ (xs : List Work). Run pl fill (Some (start input)) (events_from 0 xs) (Some (at (length pl.items)))) all
          (first_run p accepted input fill numbers (length pl.items))

      first : AllFirst pl fill sensible (Some (start input)) (events_from 0 pl.items)
      first =
          subst (λ (xs : List Work). AllFirst pl fill sensible (Some (start input)) (events_from 0 xs)) all
          (upto (length pl.items) (same (length pl.items)))
