-- What is left of an open item, done with nothing in between, finishes the item.
use Rattle.base.specs.declared.item.Event.TheVariants as event
use Rattle.std.proofs.Common.{◌≡◌, ℕ, zero, suc, ◌≤◌, ◌==◌, false, List, [], ◌∷◌, Option, Some, None, refl, sym, ◌∙◌, ap, subst}
use Rattle.std.specs.Prelude.{slice_get, option_map}
use Rattle.std.proofs.lemmas.Bool.{cond-true, cond-false, eq-eqb, ne_eqb}
use Rattle.std.proofs.lemmas.Option.{none-some}
use Rattle.base.specs.declared.item.MapItem.{MapItem}
use Rattle.base.specs.Meaning.{Run}
use Rattle.base.specs.Items.{Work}
use Rattle.base.specs.Map.{Memories, with_memories_at, Fill, in_turn}
use Rattle.base.proofs.Devices.{memories_back}
use Rattle.fine_headline.proofs.FineSpots.{own_memories, put_itself, put_again}
use Rattle.fine_machine.specs.Left.{Left, Finished, each_left}
use Rattle.fine_machine.specs.Action.{act}
use Rattle.fine_machine.specs.Machine.{State, Opened, with_condition, with_memories, has_step, is_finished, step_item, close_item}
use Rattle.machine.specs.Board.Move.{Step}
use Rattle.machine.specs.Machine.{Does, Finishes}
use Rattle.two_memories.specs.Two.{device_of}
use Rattle.two_memories.proofs.PlanItems.{at_item}
use Rattle.two_memories.proofs.MapLists.{AreSized}
use Rattle.fine_headline.specs.FineState.{Fixed, FineState, entered_after, result_of, parts}
use Rattle.fine_headline.proofs.Quietly.{closed_by}
use Rattle.fine_headline.proofs.Reaching.{Reaches, there, next, on_from}

-- map items one after the other
pub each_reaches : (lengths : List ℕ) (fill : Fill) (P : Memories → Type 0) (f : MapItem → Memories → Option Memories)
    (g : MapItem → (Unit {0} → Left) → Left) →
    ((item : MapItem) (m m' : Memories) (k : Unit {0} → Left) → 1 ≤ item.section.length → P m → f item m ≡ Some m' →
    Reaches lengths fill (g item k) m (k tt) m') →
    ((item : MapItem) (m m' : Memories) → 1 ≤ item.section.length → P m → f item m ≡ Some m' → P m') →
    (maps : List MapItem) (m m' : Memories) (k : Unit {0} → Left) → AreSized maps → P m → in_turn f maps m ≡ Some m' →
    Reaches lengths fill (each_left g maps k) m (k tt) m'
each_reaches lengths fill P f g one keep [] m m' k are p h =
    subst (λ x. Reaches lengths fill (k tt) m (k tt) x) (cc h) (there (k tt) m)
each_reaches lengths fill P f g one keep (item ∷ rest) m m' k are p h =
    go (f item m) refl h (λ n q e. each_reaches lengths fill P f g one keep rest n m' k are.rest q e)
  where
    go : (o : Option Memories) → f item m ≡ o → elim o [ None ↦ None | Some n ↦ in_turn f rest n ] ≡ Some m' →
        ((n : Memories) → P n → in_turn f rest n ≡ Some m' → Reaches lengths fill (each_left g rest k) n (k tt) m') →
        Reaches lengths fill (g item (λ u. each_left g rest k)) m (k tt) m'
    go None e h again = absurd (none-some m' h)
    go (Some n) e h again =
        on_from lengths fill (g item (λ u. each_left g rest k)) m (each_left g rest k) n (k tt) m'
        (one item m n (λ u. each_left g rest k) are.size p e) (again n (keep item m n are.size p e) h)

module _ (f : Fixed) (i : ℕ) (w : Work) (at : slice_get f.plan.items i ≡ Some w) where
  abbrev fine_state : (ℕ → List MapItem) → State → FineState
  fine_state entered u = record { fixed = f; state = u; failed = false; entered = entered }

  -- a state in which the item alone went on, to these memories
  pub record WentOn (u v : State) (m : Memories) : Type 0 where
    pub place : v.place ≡ u.place
    pub scalars : v.scalars ≡ u.scalars
    pub input : v.input ≡ u.input
    pub output : v.output ≡ u.output
    pub memories : v.memories ≡ with_memories_at (device_of f.plan i) m u.memories
    pub others : (j : ℕ) → (j ≡ i → ⊥) → v.condition j ≡ u.condition j

  pub record Ended (u : State) (entered : ℕ → List MapItem) (t : Run) (m : Memories) : Type 0 where
    pub steps : ℕ
    pub before : State
    pub left_in : ℕ → List MapItem
    pub went : WentOn u before m
    pub finishes : Finishes parts i steps (record { fixed = f; state = u; failed = false; entered = entered })
        (record { fixed = f; state = closed_by i w t before; failed = false; entered = left_in })

  close_now : (u : State) (entered : ℕ → List MapItem) (t : Run) → u.condition i ≡ Opened (Finished t) →
      Ended u entered t (own_memories f.plan i u)
  close_now u entered t e = record {
    steps = zero;
    before = u;
    left_in = entered;
    went = record {
      place = refl;
      scalars = refl;
      input = refl;
      output = refl;
      memories = sym (put_itself (device_of f.plan i) u.memories);
      others = λ j ne. refl;
    };
    finishes = record {
      enabled =
          record {
            sound = refl;
            enabled = at_item f.plan i w at false (λ w. is_finished (u.condition i))
                ∙ ap is_finished e;
          };
      step =
          sym (ap (result_of (fine_state entered u) (event.Close i))
          (at_item f.plan i w at None (λ w. close_item i w (u.condition i) u) ∙ ap (λ c. close_item i w c u) e));
    };
  }

  pub finish : (l : Left) (m : Memories) (l' : Left) (m' : Memories) → Reaches f.plan.lengths (f.fill i) l m l' m' →
      (t : Run) → l' ≡ Finished t → (u : State) (entered : ℕ → List MapItem) → u.condition i ≡ Opened l →
      own_memories f.plan i u ≡ m → Ended u entered t m'
  finish _ _ _ _ (there l m) t is u entered e same =
      subst (Ended u entered t) same (close_now u entered t (e ∙ ap Opened is))
  finish _ _ _ _ (next r k answer m n l o done more) t is u entered e same =
      let v : State = with_condition i (Opened (k answer)) (with_memories (device_of f.plan i) n u) in
      let x = finish (k answer) n l o more t is v (entered_after f.plan u entered (event.Step i))
      (cond-true (i == i) (Opened (k answer)) (u.condition i) (eq-eqb i i refl))
      (memories_back (device_of f.plan i) n u.memories) in
      record {
        steps = suc x.steps;
        before = x.before;
        left_in = x.left_in;
        went = record {
          place = x.went.place;
          scalars = x.went.scalars;
          input = x.went.input;
          output = x.went.output;
          memories = x.went.memories ∙ put_again (device_of f.plan i) n _ u.memories;
          others = λ j ne. x.went.others j ne ∙ cond-false (j == i) (Opened (k answer)) (u.condition j) (ne_eqb j i ne);
        };
        finishes = (fine_state (entered_after f.plan u entered (event.Step i)) v, steps, x.finishes);
      }
    where
      acts : act f.plan.lengths (f.fill i) r (own_memories f.plan i u) ≡ Some (answer, n)
      acts = ap (act f.plan.lengths (f.fill i) r) same ∙ done

      steps : Does parts (fine_state entered u) (Step i)
          (fine_state (entered_after f.plan u entered (event.Step i))
          (with_condition i (Opened (k answer)) (with_memories (device_of f.plan i) n u)))
      steps = record {
        enabled =
            record {
              sound = refl;
              enabled = at_item f.plan i w at false (λ w. has_step (u.condition i))
                  ∙ ap has_step e;
            };
        step =
            sym (ap (result_of (fine_state entered u) (event.Step i))
            (ap (λ c. step_item f.plan (f.fill i) i c u) e ∙ ap
            (option_map (λ p. with_condition i (Opened (k p.0)) (with_memories (device_of f.plan i) p.1 u))) acts));
      }
