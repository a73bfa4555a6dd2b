-- From the laws of the fine-grained machine, and a run of it in program order, to every run of an accepted program.
use Rattle.base.specs.declared.item.Event.{Event}
use Rattle.base.specs.declared.item.Event.TheVariants as event
use Rattle.std.proofs.Common.{◌≡◌, ℕ, ◌+◌, Bool, true, false, List, [], ◌∷◌, map, length, Option, Some, None, refl, sym, ◌∙◌, ap, subst, arith}
use Rattle.std.specs.Prelude.{◌==◌, if◌then◌else◌}
use Rattle.std.proofs.lemmas.Bool.{false≢true, eq-eqb, ne_eqb, and_parts}
use Rattle.base.specs.declared.tree.Program.{Program}
use Rattle.base.specs.declared.item.MapItem.{MapItem}
use Rattle.base.specs.declared.item.Loc.TheVariants.{Host}
use Rattle.base.specs.Items.{Plan, plan}
use Rattle.base.specs.Map.{Fill}
use Rattle.base.specs.Machine.{is_wait, is_ready, on_item}
use Rattle.fine_machine.specs.Machine.{State, as_whole, start, step, enabled, Run, RunFrom, HasEnded}
use Rattle.fine_machine.specs.Headline.{FineShowsErased, EveryFineRunIsRight, FineHeadline}
use Rattle.base.specs.Accepted.{IsAccepted}
use Rattle.base.specs.Headline.{AreNumbers, IsFill}
use Rattle.machine.specs.Board.{Move}
use Rattle.machine.specs.Board.Move.{Gen, Open, Step, Close, Wait}
use Rattle.machine.specs.Machine.{Does, Runs, Laws, InTurn, IsAsInTurn}
use Rattle.machine.proofs.Order.{order_is_free}
use Rattle.two_memories.specs.Two.{Spot, Number, Hosted}
use Rattle.two_memories.proofs.PlanItems.{within}
use Rattle.headline.proofs.LawfulItems.{is_start}
use Rattle.headline.proofs.OrderedItems.{items_ordered}
use Rattle.fine_headline.specs.FineState.{FineState, IsStart, event_of, result_of, next, entered_after, parts}
use Rattle.fine_headline.proofs.NeverStuck.{a_run_goes_on}

module _ (pl : Plan) (fill : ℕ → Fill) (order : ℕ → List ℕ) where
  -- a state of the definitions, where nothing failed
  abbrev pub fine_state : (ℕ → List MapItem) → State → FineState
  fine_state entered s = record { fixed = record { plan = pl; fill = fill; order = order }; state = s; failed = false; entered = entered }

  abbrev pub move_of : Event → Move
  move_of (event.Gen i) = Gen i
  move_of (event.Open i) = Open i
  move_of (event.Step i) = Step i
  move_of (event.Close i) = Close i
  move_of (event.Wait i) = Wait i
  move_of event.End = Wait (length pl.items)

  -- an event that may happen can be told from its move
  event_again : (s : State) (e : Event) → enabled pl s e ≡ true → event_of pl (move_of e) ≡ e
  event_again s (event.Gen i) h = refl
  event_again s (event.Open i) h = refl
  event_again s (event.Step i) h = refl
  event_again s (event.Close i) h = refl
  event_again s (event.Wait i) h =
      let lt = within pl i (λ w. is_wait w.kind)
      (and_parts (on_item pl i false (λ w. is_wait w.kind)) (is_ready pl (as_whole s) i)
      (and_parts (s.place == i) _ h).1).0 in
      ap (λ (b : Bool). if b then event.End else event.Wait i)
      (ne_eqb i (length pl.items) (λ e. absurd (omega arith)))
  event_again s event.End h =
      ap (λ (b : Bool). if b then event.End else event.Wait (length pl.items))
      (eq-eqb (length pl.items) (length pl.items) refl)

  pub does_step : (entered : ℕ → List MapItem) (s : State) (e : Event) → enabled pl s e ≡ true →
      Does parts (fine_state entered s) (move_of e) (next (fine_state entered s) e)
  does_step entered s e h =
      record {
        enabled = record { sound = refl; enabled = subst (λ x. enabled pl s x ≡ true) (sym (event_again s e h)) h };
        step = ap (next (fine_state entered s)) (sym (event_again s e h));
      }

  -- where some events lead
  pub record Leads (s : FineState) (events : List Event) (end : Option State) : Type 0 where
    pub last : FineState
    pub run : Runs parts s (map move_of events) last
    pub sound : (t : State) → end ≡ Some t → last.state ≡ t
    pub fails : end ≡ None → last.failed ≡ true

  pub leads : (events : List Event) (entered : ℕ → List MapItem) (s : State) (end : Option State) →
      Run pl fill order (Some s) events end → Leads (fine_state entered s) events end
  leads [] entered s end r =
      record {
        last = fine_state entered s;
        run = refl;
        sound = λ t e. some_is s t (sym r ∙ e);
        fails = λ e. absurd
            (none_some s (sym e ∙ r));
      }
    where
      some_is : (s t : State) → Some s ≡ Some t → s ≡ t
      some_is s t e = cc e

      none_some : (s : State) → None ≡ Some s → ⊥
      none_some s e = cc e
  leads (e ∷ rest) entered s end r =
      go (step pl fill order s e) refl r.1 (λ u k. leads rest (entered_after pl s entered e) u end k)
    where
      some_none : (t : State) → Some t ≡ None → ⊥
      some_none t e = cc e

      go : (o : Option State) → step pl fill order s e ≡ o → Run pl fill order o rest end →
          ((u : State) → Run pl fill order (Some u) rest end → Leads (fine_state (entered_after pl s entered e) u) rest end) →
          Leads (fine_state entered s) (e ∷ rest) end
      go (Some u) is k more =
          let l = more u k in
          let at : next (fine_state entered s) e ≡ fine_state (entered_after pl s entered e) u = ap
          (result_of (fine_state entered s) e) is in
          record {
            last = l.last;
            run = (
              fine_state (entered_after pl s entered e) u,
              subst
                  (λ (x : FineState). Does parts (fine_state entered s) (move_of e) x) at (does_step entered s e r.0),
              l.run,
            );
            sound =
                l.sound;
            fails = l.fails;
          }
      go None is k more = failed rest k
        where
          failed : (rest : List Event) → Run pl fill order None rest end → Leads (fine_state entered s) (e ∷ rest) end
          failed [] k =
              record {
                last = next (fine_state entered s) e;
                run =
                    (next (fine_state entered s) e, does_step entered s e r.0, refl);
                sound = λ t f. absurd
                    (some_none t (sym f ∙ k));
                fails = λ f. ap
                    (λ (o : Option State). (result_of (fine_state entered s) e o).failed) is;
              }
          failed (x ∷ xs) k = absurd k

abbrev pub none_entered : ℕ → List MapItem
none_entered i = []

-- program order as a run of the fine-grained machine, whose end shows what the program does without its directives
pub record Chain (p : Program) (input : List ℕ) (fill : ℕ → Fill) (order : ℕ → List ℕ) : Type 0 where
  pub turn : InTurn parts (fine_state (plan p) fill order none_entered (start input))
  pub shows : FineShowsErased p input (turn.after (length (plan p).items + 1)).state

module _ (laws : Laws parts) (p : Program) (accepted : IsAccepted (plan p))
    (chain : (input : List ℕ) (fill : ℕ → Fill) (order : ℕ → List ℕ) → AreNumbers input → IsFill fill →
    Chain p input fill order) where
  same_number : (a b : ℕ) → Number (Some a) ≡ Number (Some b) → a ≡ b
  same_number a b e = cc

  module _ (input : List ℕ) (fill : ℕ → Fill) (order : ℕ → List ℕ) (numbers : AreNumbers input) (filled : IsFill fill) where
    starts : IsStart (fine_state (plan p) fill order none_entered (start input))
    starts =
        let s = is_start p accepted input fill numbers filled in record {
          lawful = s.lawful;
          fill = s.fill;
          input = input;
          numbers = numbers;
          state = refl;
          entered = refl;
          sound =
              refl;
        }

    as_in_turn : (events : List Event) (end : Option State)
        (l : Leads (plan p) fill order (fine_state (plan p) fill order none_entered (start input)) events end) → IsAsInTurn parts
        (fine_state (plan p) fill order none_entered (start input)) (chain input fill order numbers filled).turn.after l.last
    as_in_turn events end l =
        order_is_free parts laws (fine_state (plan p) fill order none_entered (start input))
        (map (move_of (plan p) fill order) events) l.last (chain input fill order numbers filled).turn starts
        (items_ordered (plan p) accepted) l.run

    never_failed : (events : List Event) → RunFrom (plan p) fill order input events None → ⊥
    never_failed events r =
        let l = leads (plan p) fill order events none_entered (start input) None r in
        let h = as_in_turn events None l in
        absurd (false≢true (sym h.sound ∙ l.fails refl))

    shown : (events : List Event) (s : State) → RunFrom (plan p) fill order input events (Some s) → HasEnded (plan p) s →
        FineShowsErased p input s
    shown events s r ended =
        let c = chain input fill order numbers filled in
        let l = leads (plan p) fill order events none_entered (start input) (Some s) r in
        let h = as_in_turn events (Some s) l in
        let is : l.last.state ≡ s = l.sound s refl in
        let at_end : l.last.state.place ≡ length (plan p).items + 1 = ap (λ (x : State). x.place) is ∙ ended in
        subst (FineShowsErased p input) is
        (record {
          plain = c.shows.plain;
          is_erased = c.shows.is_erased;
          output = ap (λ (x : Hosted). x.output) (h.end_host at_end) ∙ c.shows.output;
          marked = λ a i k. let at : Spot = record { loc = Host; cell = a } in
              same_number (l.last.state.memories.host a)
              ((c.turn.after (length (plan p).items + 1)).state.memories.host a) (h.end_values at_end at)
              ∙ c.shows.marked a i k;
        })

  pub every_run_is_right : EveryFineRunIsRight p
  every_run_is_right = record {
    shows = λ input fill order events s numbers filled r ended. shown input fill order numbers filled events s r ended;
    never_fails = λ input fill order events numbers filled r. never_failed input fill order numbers filled events r;
    never_stuck = λ input fill order events s numbers filled r going. a_run_goes_on p input fill order events s r going;
  }

-- the fine-grained headline, from the laws and the run in program order
pub headline_from : Laws parts →
    ((p : Program) → IsAccepted (plan p) → (input : List ℕ)
    (fill : ℕ → Fill) (order : ℕ → List ℕ) → AreNumbers input → IsFill fill → Chain p input fill order) → FineHeadline
headline_from laws chains p accepted = every_run_is_right laws p accepted (chains p accepted)
