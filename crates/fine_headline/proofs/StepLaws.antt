-- The laws of single steps hold of the fine-grained machine.
use Rattle.base.specs.declared.item.Event.{Event}
use Rattle.base.specs.declared.item.Event.TheVariants as event
use Rattle.std.proofs.Common.{◌≡◌, ◌⊎◌, ℕ, ◌+◌, ◌<◌, ◌^◌, ◌==◌, Bool, true, false, List, [], length, Option, Some, None, refl, sym, ◌∙◌, ap, inl, inr, subst, arith}
use Rattle.std.specs.Prelude.{All, not, ◌&&◌, ◌||◌, slice_get, if◌then◌else◌}
use Rattle.std.proofs.lemmas.Bool.{false≢true, cases_eq, eq-eqb, ne_eqb, eqb-true, and_parts, cond_both}
use Rattle.std.proofs.lemmas.Option.{slice_get_within, none-some}
use Rattle.std.proofs.lemmas.List.Elements.{All-nil}
use Rattle.base.specs.declared.item.MapItem.{MapItem}
use Rattle.base.specs.declared.item.ItemKind.{ItemKind}
use Rattle.base.specs.declared.item.ItemKind.TheVariants as kind
use Rattle.base.specs.Memory.{Scalars}
use Rattle.base.specs.Meaning.{Run}
use Rattle.base.specs.Items.{Work, Plan}
use Rattle.base.specs.Map.{Device, AllMemories}
use Rattle.base.specs.Blocks.{AreApart}
use Rattle.base.specs.Machine.{on_item}
use Rattle.base.specs.Machine as two
use Rattle.fine_machine.specs.Left.{Asks, Finished, item_left}
use Rattle.fine_machine.specs.Action.{act}
use Rattle.fine_machine.specs.Machine.{State, Condition, Untouched, Generated, Opened, Closed, Passed, as_whole, whole_condition, with_condition, with_memories, moves_on, has_step, is_finished, start, begun, captured_by, input_of, open_item, step_item, close_item, host_done}
use Rattle.fine_machine.specs.Machine as fine
use Rattle.regions.specs.Footprints.{BoundedScalars, BoundedView}
use Rattle.regions.proofs.StatementsDone.{AllSmall, Fine}
use Rattle.regions.proofs.ValueBounds.{IfThere, there_map}
use Rattle.regions.proofs.StatementsDone.{small_list}
use Rattle.machine.specs.Board.{Move, Allows, Moves, IsUnderWay, IsFresh}
use Rattle.machine.specs.Board.Move.{Gen, Open, Step, Close, Wait}
use Rattle.machine.specs.Board.Condition.{Untouched as untouched, Opened as is_opened}
use Rattle.machine.specs.Machine.{Does, StepLaws}
use Rattle.two_memories.specs.Two.{Two, items_of, device_of, own_part, own_of as whole_own}
use Rattle.two_memories.specs.Two as parts_of
use Rattle.two_memories.proofs.PlanItems.{at_item, on_true, own_at, part_open}
use Rattle.two_memories.proofs.AllowedEvents.{allows as whole_allows}
use Rattle.two_memories.proofs.Starts.{fresh_phase}
use Rattle.two_memories.proofs.Starts.{is_plan}
use Rattle.fine_headline.specs.FineState.{FineState, Own, board_of, own_of, failing, result_of, next, next_move, is_resting, entered_now, entered_by, entered_after, nothing_left, LeavesAll, IsSettled, AreSettled, MayDo, BoundedCondition, BoundedLeft, IsBounded, IsValid, IsStart, parts}
use Rattle.fine_headline.proofs.FineSpots.{own_memories}
use Rattle.fine_headline.proofs.BoundedLefts.{item_bounded}
use Rattle.fine_headline.proofs.LeavingAll.{item_leaves}
use Rattle.fine_headline.proofs.Settling.{settled_with, settled_stepped, still_resting, wait_empty}
use Rattle.fine_headline.proofs.Acting.{IsKept, IsActed, act_kept}
use Rattle.fine_headline.proofs.Stepping.{Ready, IsMarked, gen_marked, wait_marked, end_marked, open_marked, close_marked, step_marked, step_conditions}

-- a state that an event makes
record IsGood (s : FineState) (e : Move) (m : ℕ → List MapItem) (x : State) : Type 0 where
  bounded : IsBounded x
  blocks : (d : ℕ) → AreApart (x.memories.devices d).blocks
  marked : IsMarked s.fixed.plan e s.state x
  settled : AreSettled s.fixed.plan m x.condition

ready : (s : FineState) → IsValid s → Ready s.fixed.plan s.state
ready s v =
    record {
      scalars = v.bounded.scalars;
      condition = v.bounded.condition;
      placed =
          record { here = v.here; ahead = v.ahead };
    }

bounded_with : (i : ℕ) (c : Condition) (s : State) → BoundedCondition c → IsBounded s → IsBounded (with_condition i c s)
bounded_with i c s b h = record {
  host = h.host;
  devices = h.devices;
  scalars = h.scalars;
  input = h.input;
  condition = λ k. cond_both (k == i) c (s.condition k) BoundedCondition (λ _. b) (λ _. h.condition k);
}

bounded_moved : (d : Bool) (s : State) → IsBounded s → IsBounded (moves_on d s)
bounded_moved true s h = h
bounded_moved false s h =
    record { host = h.host; devices = h.devices; scalars = h.scalars; input = h.input; condition = h.condition }

pub moved_memories : (d : Bool) (s : State) → (moves_on d s).memories ≡ s.memories
moved_memories true s = refl
moved_memories false s = refl

pub moved_condition : (d : Bool) (s : State) → (moves_on d s).condition ≡ s.condition
moved_condition true s = refl
moved_condition false s = refl

moved_place : (d : Bool) (s t : State) → s.place ≡ t.place → (moves_on d s).place ≡ (moves_on d t).place
moved_place true s t e = e
moved_place false s t e = ap (λ n. n + 1) e

-- What a close does to the host's part.

record IsDone (s x : State) : Type 0 where
  bounded : IsBounded x
  place : x.place ≡ s.place
  memories : x.memories ≡ s.memories
  condition : x.condition ≡ s.condition

done : (k : ItemKind) (t : Run) (s : State) → BoundedLeft (Finished t) → IsBounded s → IsDone s (host_done k t s)
done kind.Host t s b h =
    record {
      bounded = record {
        host = h.host;
        devices = h.devices;
        scalars = b.scalars;
        input = b.input;
        condition =
            h.condition;
      };
      place = refl;
      memories = refl;
      condition = refl;
    }
done kind.Target t s b h = record { bounded = h; place = refl; memories = refl; condition = refl }
done kind.Begin t s b h = record { bounded = h; place = refl; memories = refl; condition = refl }
done kind.End t s b h = record { bounded = h; place = refl; memories = refl; condition = refl }
done kind.Enter t s b h = record { bounded = h; place = refl; memories = refl; condition = refl }
done kind.Exit t s b h = record { bounded = h; place = refl; memories = refl; condition = refl }
done kind.Update t s b h = record { bounded = h; place = refl; memories = refl; condition = refl }
done kind.Wait t s b h = record { bounded = h; place = refl; memories = refl; condition = refl }

-- Where an item's region begins.

captured_bounded : (c : Condition) (scalars : Scalars) → BoundedCondition c → BoundedScalars scalars →
    BoundedScalars (captured_by c scalars)
captured_bounded (Generated captured) scalars h k = h
captured_bounded Untouched scalars h k = k
captured_bounded (Opened left) scalars h k = k
captured_bounded Closed scalars h k = k
captured_bounded Passed scalars h k = k

input_small : (k : ItemKind) (input : List ℕ) → AllSmall input → AllSmall (input_of k input)
input_small kind.Host input h = h
input_small kind.Target input h = tt
input_small kind.Begin input h = tt
input_small kind.End input h = tt
input_small kind.Enter input h = tt
input_small kind.Exit input h = tt
input_small kind.Update input h = tt
input_small kind.Wait input h = tt

pub begun_fine : (w : Work) (c : Condition) (s : State) → BoundedCondition c → IsBounded s → Fine (begun w c s)
begun_fine w c s b h =
    record {
      scalars = captured_bounded c s.scalars b h.scalars;
      input = input_small w.kind s.input
          (small_list s.input h.input);
      stores = λ d n e. absurd (none-some n e);
    }

there_both : {A : Type 0} (P Q : A → Type 0) (o : Option A) → IfThere P o → IfThere Q o → IfThere (λ x. P x × Q x) o
there_both P Q None h k = tt
there_both P Q (Some x) h k = (h, k)

module _ (s : FineState) (v : IsValid s) where
  abbrev plan : Plan
  plan = s.fixed.plan

  abbrev opens : ℕ → Work → Bool
  opens i w =
      not (two.is_wait w.kind) && ((w.deferred || (s.state.place == i)) && (two.is_waiting w.deferred
      (whole_condition (s.state.condition i)) && two.is_ready plan (as_whole s.state) i))

  waits : (i : ℕ) (w : Work) → opens i w ≡ true →
      two.is_waiting w.deferred (whole_condition (s.state.condition i)) ≡ true
  waits i w h =
      (and_parts (two.is_waiting w.deferred (whole_condition (s.state.condition i))) _
      (and_parts (w.deferred || (s.state.place == i)) _ (and_parts (not (two.is_wait w.kind)) _ h).1).1).0

  -- an item that waits to be opened has entered nothing
  pub none_waiting : (i : ℕ) (d : Bool) → two.is_waiting d (whole_condition (s.state.condition i)) ≡ true →
      s.entered i ≡ []
  none_waiting i d h = go d (s.state.condition i) (v.settled.settled i) h
    where
      go : (d : Bool) (c : Condition) → IsSettled plan i (s.entered i) c → two.is_waiting d (whole_condition c) ≡ true →
          s.entered i ≡ []
      go d Untouched e h = e
      go d (Generated captured) e h = e
      go d Closed e h = e
      go d Passed e h = e
      go true (Opened left) e h = absurd (false≢true h)
      go false (Opened left) e h = absurd (false≢true h)

  open_good : (i : ℕ) → fine.enabled plan s.state (event.Open i) ≡ true →
      IfThere (IsGood s (Open i) s.entered) (fine.step plan s.fixed.fill s.fixed.order s.state (event.Open i))
  open_good i en = go (on_true plan i (opens i) en)
    where
      go : (w : Work) × (slice_get plan.items i ≡ Some w) × (opens i w ≡ true) →
          IfThere (IsGood s (Open i) s.entered) (fine.step plan s.fixed.fill s.fixed.order s.state (event.Open i))
      go r =
          let w = r.0 in
          let c = s.state.condition i in
          subst (IfThere (IsGood s (Open i) s.entered)) (sym (at_item plan i w r.1 None (λ w. open_item (s.fixed.order i) i w s.state)))
          (there_map (λ left. BoundedLeft left × LeavesAll plan i [] left) (IsGood s (Open i) s.entered)
          (λ left. with_condition i (Opened left) s.state)
          (item_left (s.fixed.order i) w (s.state.memories.devices w.device).blocks (begun w c s.state))
          (λ left b. record {
            bounded = bounded_with i (Opened left) s.state b.0 v.bounded;
            blocks = v.blocks;
            marked = open_marked plan s.state (ready s v) i left en;
            settled =
                settled_with plan i s.entered s.state.condition v.settled (Opened left)
                (subst (λ ms. LeavesAll plan i ms left) (sym (none_waiting i w.deferred (waits i w r.2))) b.1);
          })
          (there_both BoundedLeft (LeavesAll plan i []) (item_left (s.fixed.order i) w (s.state.memories.devices w.device).blocks (begun w c s.state))
          (item_bounded (s.fixed.order i) w (s.state.memories.devices w.device).blocks (begun w c s.state) (v.lawful i w r.1)
          (begun_fine w c s.state (v.bounded.condition i) v.bounded))
          (item_leaves plan i w r.1 (s.fixed.order i) (s.state.memories.devices w.device).blocks (begun w c s.state) (v.lawful i w r.1)
          (begun_fine w c s.state (v.bounded.condition i) v.bounded))))

  pub kept_memories : (i : ℕ) → IsKept (own_memories plan i s.state)
  kept_memories i =
      let d = device_of plan i in
      record { bounded = record { host = v.bounded.host; device = v.bounded.devices d }; blocks = v.blocks d }

  step_good : (i : ℕ) → fine.enabled plan s.state (event.Step i) ≡ true →
      IfThere (IsGood s (Step i) (entered_after plan s.state s.entered (event.Step i)))
      (fine.step plan s.fixed.fill s.fixed.order s.state (event.Step i))
  step_good i en = go (s.state.condition i) refl (v.bounded.condition i) (v.settled.settled i)
    where
      d : ℕ
      d = device_of plan i

      go : (c : Condition) → s.state.condition i ≡ c → BoundedCondition c → IsSettled plan i (s.entered i) c →
          IfThere (IsGood s (Step i) (entered_after plan s.state s.entered (event.Step i)))
          (step_item plan (s.fixed.fill i) i c s.state)
      go (Opened (Asks r k)) e b l =
          there_map IsActed (IsGood s (Step i) (entered_after plan s.state s.entered (event.Step i)))
          (λ p. with_condition i (Opened (k p.0)) (with_memories d p.1 s.state))
          (act plan.lengths (s.fixed.fill i) r (own_memories plan i s.state))
          (λ p h. record {
            bounded =
                bounded_with i (Opened (k p.0)) (with_memories d p.1 s.state) (b.1 p.0 h.0)
                (record {
                  host = h.1.bounded.host;
                  devices =
                      λ e. cond_both (e == d) p.1.device (s.state.memories.devices e)
                      (λ (x : Device). BoundedView x.cells) (λ _. h.1.bounded.device) (λ _. v.bounded.devices e);
                  scalars = v.bounded.scalars;
                  input = v.bounded.input;
                  condition = v.bounded.condition;
                });
            blocks =
                λ e. cond_both (e == d) p.1.device (s.state.memories.devices e) (λ (x : Device). AreApart x.blocks)
                (λ _. h.1.blocks) (λ _. v.blocks e);
            marked =
                step_marked plan s.state (ready s v) i
                (with_condition i (Opened (k p.0)) (with_memories d p.1 s.state)) en refl
                (step_conditions i (k p.0) (Asks r k) s.state e);
            settled =
                subst (λ ms. AreSettled plan (λ j. if j == i then ms else s.entered j)
                (with_condition i (Opened (k p.0)) s.state).condition)
                (ap (λ c. entered_by (is_resting plan i) c (s.entered i)) (sym e))
                (settled_stepped plan i s.entered s.state.condition v.settled
                (entered_now (is_resting plan i) r (s.entered i)) (Opened (k p.0))
                (still_resting plan i r (s.entered i) l.0 (v.settled.resting i)) (l.1 p.0 h.0));
          })
          (act_kept plan.lengths (s.fixed.fill i) r (own_memories plan i s.state) (v.fill i) b.0 (kept_memories i))
      go (Opened (Finished t)) e b l = tt
      go Untouched e b l = tt
      go (Generated captured) e b l = tt
      go Closed e b l = tt
      go Passed e b l = tt

  close_good : (i : ℕ) → fine.enabled plan s.state (event.Close i) ≡ true →
      IfThere (IsGood s (Close i) s.entered) (fine.step plan s.fixed.fill s.fixed.order s.state (event.Close i))
  close_good i en = by (on_true plan i (λ w. is_finished (s.state.condition i)) en)
    where
      by : (w : Work) × (slice_get plan.items i ≡ Some w) × (is_finished (s.state.condition i) ≡ true) →
          IfThere (IsGood s (Close i) s.entered) (fine.step plan s.fixed.fill s.fixed.order s.state (event.Close i))
      by r =
          subst (IfThere (IsGood s (Close i) s.entered))
          (sym (at_item plan i w r.1 None (λ w. close_item i w (s.state.condition i) s.state)))
          (go (s.state.condition i) (v.bounded.condition i) (v.settled.settled i))
        where
          w : Work
          w = r.0

          go : (c : Condition) → BoundedCondition c → IsSettled plan i (s.entered i) c →
              IfThere (IsGood s (Close i) s.entered) (close_item i w c s.state)
          go (Opened (Finished t)) b l =
              let d = done w.kind t s.state b v.bounded in
              let y = host_done w.kind t s.state in
              let x = moves_on w.deferred (with_condition i Closed y) in
              record {
                bounded = bounded_moved w.deferred (with_condition i Closed y) (bounded_with i Closed y tt d.bounded);
                blocks =
                    λ e. subst (λ (m : AllMemories). AreApart (m.devices e).blocks)
                    (sym (moved_memories w.deferred (with_condition i Closed y) ∙ d.memories)) (v.blocks e);
                marked = close_marked plan s.state (ready s v) i x en
                    (moved_place w.deferred (with_condition i Closed y) (with_condition i Closed s.state) d.place ∙ ap
                    (λ b. (moves_on b (with_condition i Closed s.state)).place)
                    (sym (at_item plan i w r.1 false (λ w. w.deferred))))
                    (moved_condition w.deferred (with_condition i Closed y) ∙ ap
                    (λ f k. if k == i then Closed else f k) d.condition);
                settled =
                    subst (AreSettled plan s.entered) (sym (moved_condition w.deferred (with_condition i Closed y) ∙ ap
                    (λ f k. if k == i then Closed else f k) d.condition))
                    (settled_with plan i s.entered s.state.condition v.settled Closed l);
              }
          go (Opened (Asks r k)) b l = tt
          go Untouched b l = tt
          go (Generated captured) b l = tt
          go Closed b l = tt
          go Passed b l = tt

  -- nor does one that is done
  none_finished : (i : ℕ) → is_finished (s.state.condition i) ≡ true → s.entered i ≡ []
  none_finished i h = go (s.state.condition i) (v.settled.settled i) h
    where
      go : (c : Condition) → IsSettled plan i (s.entered i) c → is_finished c ≡ true → s.entered i ≡ []
      go (Opened (Finished t)) e h = e
      go (Opened (Asks r k)) e h = absurd (false≢true h)
      go Untouched e h = absurd (false≢true h)
      go (Generated captured) e h = absurd (false≢true h)
      go Closed e h = absurd (false≢true h)
      go Passed e h = absurd (false≢true h)

  failed_close : (i : ℕ) → fine.enabled plan s.state (event.Close i) ≡ true →
      IsGood s (Close i) s.entered (failing plan s.state (event.Close i))
  failed_close i en =
      let d = on_item plan i false (λ w. w.deferred) in
      record {
        bounded = bounded_moved d (with_condition i Closed s.state) (bounded_with i Closed s.state tt v.bounded);
        blocks =
            λ e. subst (λ (m : AllMemories). AreApart (m.devices e).blocks)
            (sym (moved_memories d (with_condition i Closed s.state))) (v.blocks e);
        marked =
            close_marked plan s.state (ready s v) i (moves_on d (with_condition i Closed s.state)) en refl
            (moved_condition d (with_condition i Closed s.state));
        settled =
            subst (AreSettled plan s.entered) (sym (moved_condition d (with_condition i Closed s.state)))
            (settled_with plan i s.entered s.state.condition v.settled Closed
            (none_finished i (on_true plan i (λ w. is_finished (s.state.condition i)) en).2));
      }

  nothing_bounded : BoundedLeft nothing_left
  nothing_bounded = record { scalars = λ x. omega arith; input = All-nil (λ n. n < 2 ^ 64) }

  failed_open : (i : ℕ) → fine.enabled plan s.state (event.Open i) ≡ true →
      IsGood s (Open i) s.entered (failing plan s.state (event.Open i))
  failed_open i en =
      let r = on_true plan i (opens i) en in
      record {
        bounded = bounded_with i (Opened nothing_left) s.state nothing_bounded v.bounded;
        blocks = v.blocks;
        marked = open_marked plan s.state (ready s v) i nothing_left en;
        settled =
            settled_with plan i s.entered s.state.condition v.settled (Opened nothing_left)
            (none_waiting i r.0.deferred (waits i r.0 r.2));
      }

  failed_step : (i : ℕ) → fine.enabled plan s.state (event.Step i) ≡ true → IsGood s (Step i) s.entered s.state
  failed_step i en =
      record {
        bounded = v.bounded;
        blocks = v.blocks;
        marked = step_marked plan s.state
            (ready s v) i s.state en refl refl;
        settled = v.settled;
      }

  -- what an event leaves, where it fails too
  record IsNext (e : Move) (t : FineState) : Type 0 where
    valid : IsValid t
    fixed : t.fixed ≡ s.fixed
    moves : Moves (items_of s.fixed.plan) (board_of s.fixed.plan s.state) e (board_of t.fixed.plan t.state)

  is_next : (e : Move) (x : State) (b : Bool) (m : ℕ → List MapItem) → IsGood s e m x →
      IsNext e (record { fixed = s.fixed; state = x; failed = b; entered = m })
  is_next e x b m g = record {
    valid =
        record {
          lawful = v.lawful;
          fill = v.fill;
          bounded = g.bounded;
          here = g.marked.placed.here;
          ahead =
              g.marked.placed.ahead;
          blocks = g.blocks;
          settled = g.settled;
        };
    fixed = refl;
    moves = g.marked.moved;
  }

  of_result : (e : Move) (ev : Event) (o : Option State) →
      IfThere (IsGood s e (entered_after plan s.state s.entered ev)) o →
      IsGood s e s.entered (failing plan s.state ev) → IsNext e (result_of s ev o)
  of_result e ev None h k = is_next e (failing plan s.state ev) true s.entered k
  of_result e ev (Some x) h k = is_next e x s.failed (entered_after plan s.state s.entered ev) h

  passed : (x : State) (e : Move) → IsBounded x → ((d : ℕ) → AreApart (x.memories.devices d).blocks) → IsMarked plan e s.state x →
      AreSettled plan s.entered x.condition → IsGood s e s.entered x
  passed x e b k m l = record { bounded = b; blocks = k; marked = m; settled = l }

  wait_none : (i : ℕ) → fine.enabled plan s.state (event.Wait i) ≡ true → s.entered i ≡ []
  wait_none i en =
      let r = on_true plan i (λ w. two.is_wait w.kind)
      (and_parts (on_item plan i false (λ w. two.is_wait w.kind)) _ (and_parts (s.state.place == i) _ en).1).0 in
      wait_empty plan i r.0 (s.entered i) r.1 r.2 (v.settled.resting i)

  gen_none : (i : ℕ) → fine.enabled plan s.state (event.Gen i) ≡ true → s.entered i ≡ []
  gen_none i en =
      let p = and_parts (s.state.place == i) (on_item plan i false (λ w. w.deferred)) en in
      let place : s.state.place ≡ i = eqb-true s.state.place i p.0 in
      go (s.state.condition i) (v.settled.settled i) (v.ahead i p.1 (omega (arith, place)))
    where
      go : (c : Condition) → IsSettled plan i (s.entered i) c → whole_condition c ≡ whole_condition Untouched →
          s.entered i ≡ []
      go Untouched e h = e
      go (Generated captured) e h = e
      go Closed e h = e
      go Passed e h = e
      go (Opened left) e h = absurd (cc h)

  wait_next : (i : ℕ) → MayDo s (Wait i) → IsNext (Wait i) (next_move s (Wait i))
  wait_next i h = go (cases_eq i (length plan.items))
    where
      choice : Bool → Event
      choice b = if b then event.End else event.Wait i

      go : (i ≡ length plan.items) ⊎ (i ≡ length plan.items → ⊥) → IsNext (Wait i) (next_move s (Wait i))
      go (inl e) =
          let is : (i == length plan.items) ≡ true = eq-eqb i (length plan.items) e in
          subst (λ b. IsNext (Wait i) (next s (if b then event.End else event.Wait i))) (sym is)
          (is_next (Wait i) (moves_on false s.state) s.failed (entered_after plan s.state s.entered event.End)
          (passed (moves_on false s.state) (Wait i) (bounded_moved false s.state v.bounded) v.blocks
          (end_marked plan s.state (ready s v) i e
          (subst (λ b. fine.enabled plan s.state (if b then event.End else event.Wait i) ≡ true) is h.enabled))
          v.settled))
      go (inr n) =
          let is : (i == length plan.items) ≡ false = ne_eqb i (length plan.items) n in
          subst (λ b. IsNext (Wait i) (next s (if b then event.End else event.Wait i))) (sym is)
          (is_next (Wait i) (moves_on false (with_condition i Passed s.state)) s.failed
          (entered_after plan s.state s.entered (event.Wait i))
          (passed (moves_on false (with_condition i Passed s.state)) (Wait i)
          (bounded_moved false (with_condition i Passed s.state) (bounded_with i Passed s.state tt v.bounded)) v.blocks
          (wait_marked plan s.state (ready s v) i
          (subst (λ b. fine.enabled plan s.state (if b then event.End else event.Wait i) ≡ true) is h.enabled))
          (settled_with plan i s.entered s.state.condition v.settled Passed
          (wait_none i (subst (λ b. fine.enabled plan s.state (if b then event.End else event.Wait i) ≡ true) is
          h.enabled)))))

  next_is : (e : Move) → MayDo s e → IsNext e (next_move s e)
  next_is (Gen i) h =
      is_next (Gen i) (moves_on false (with_condition i (Generated s.state.scalars) s.state)) s.failed
      (entered_after plan s.state s.entered (event.Gen i))
      (passed _ (Gen i) (bounded_moved false (with_condition i (Generated s.state.scalars) s.state)
      (bounded_with i (Generated s.state.scalars) s.state v.bounded.scalars v.bounded)) v.blocks
      (gen_marked plan s.state (ready s v) i h.enabled)
      (settled_with plan i s.entered s.state.condition v.settled (Generated s.state.scalars) (gen_none i h.enabled)))
  next_is (Open i) h =
      of_result (Open i) (event.Open i) (fine.step plan s.fixed.fill s.fixed.order s.state (event.Open i))
      (open_good i h.enabled) (failed_open i h.enabled)
  next_is (Step i) h =
      of_result (Step i) (event.Step i) (fine.step plan s.fixed.fill s.fixed.order s.state (event.Step i))
      (step_good i h.enabled) (failed_step i h.enabled)
  next_is (Close i) h =
      of_result (Close i) (event.Close i) (fine.step plan s.fixed.fill s.fixed.order s.state (event.Close i))
      (close_good i h.enabled) (failed_close i h.enabled)
  next_is (Wait i) h = wait_next i h

  does_next : (e : Move) (t : FineState) → Does parts s e t → IsNext e t
  does_next e t d = subst (IsNext e) (sym d.step) (next_is e d.enabled)

-- What a board allows.

under_way : (s : FineState) (i : ℕ) (f : Condition → Bool) →
    ((c : Condition) → f c ≡ true → two.is_open (whole_condition c) ≡ true) →
    on_item s.fixed.plan i false (λ w. f (s.state.condition i)) ≡ true →
    IsUnderWay (items_of s.fixed.plan) (board_of s.fixed.plan s.state) i
under_way s i f opens en =
    let r = on_true s.fixed.plan i (λ w. f (s.state.condition i)) en in
    let lt = slice_get_within s.fixed.plan.items i r.0 r.1 in
    record {
      in_range = omega arith;
      opened = ap (λ (o : parts_of.Own). o.phase)
          (own_at s.fixed.plan (as_whole s.state) i r.0 r.1) ∙ part_open r.0 (whole_condition (s.state.condition i))
          (opens (s.state.condition i) r.2);
    }

stepping_open : (c : Condition) → has_step c ≡ true → two.is_open (whole_condition c) ≡ true
stepping_open (Opened left) e = refl
stepping_open Untouched e = absurd (false≢true e)
stepping_open (Generated captured) e = absurd (false≢true e)
stepping_open Closed e = absurd (false≢true e)
stepping_open Passed e = absurd (false≢true e)

finished_open : (c : Condition) → is_finished c ≡ true → two.is_open (whole_condition c) ≡ true
finished_open (Opened left) e = refl
finished_open Untouched e = absurd (false≢true e)
finished_open (Generated captured) e = absurd (false≢true e)
finished_open Closed e = absurd (false≢true e)
finished_open Passed e = absurd (false≢true e)

abbrev as_two : FineState → Two
as_two s =
    record {
      fixed = record { plan = s.fixed.plan; fill = s.fixed.fill };
      state = as_whole s.state;
      failed = s.failed;
    }

same_wait : (plan : Plan) (s : State) (i : ℕ) (b : Bool) →
    fine.enabled plan s (if b then event.End else event.Wait i) ≡ parts_of.on_event
    (if b then Some event.End else Some (event.Wait i)) false (two.enabled plan (as_whole s))
same_wait plan s i true = refl
same_wait plan s i false = refl

allows : (s : FineState) (e : Move) → MayDo s e → Allows (items_of s.fixed.plan) (board_of s.fixed.plan s.state) e
allows s (Gen i) h =
    whole_allows (as_two s) (Gen i)
    (record { sound = h.sound; enabled = h.enabled })
allows s (Open i) h =
    whole_allows (as_two s) (Open i)
    (record { sound = h.sound; enabled = h.enabled })
allows s (Step i) h = under_way s i has_step stepping_open h.enabled
allows s (Close i) h = under_way s i is_finished finished_open h.enabled
allows s (Wait i) h =
    whole_allows (as_two s) (Wait i)
    (record {
      sound = h.sound;
      enabled = sym (same_wait s.fixed.plan s.state i (i == length s.fixed.plan.items))
          ∙ h.enabled;
    })

-- The start.

start_bounded : (input : List ℕ) → All (λ n. n < 2 ^ 64) input → IsBounded (start input)
start_bounded input h =
    record {
      host = λ c. omega arith;
      devices = λ d c n e. absurd (none-some n e);
      scalars = λ x. omega arith;
      input = h;
      condition = λ i. tt;
    }

starts_valid : (s : FineState) → IsStart s → IsValid s
starts_valid s h = record {
  lawful = h.lawful;
  fill = h.fill;
  bounded = subst IsBounded (sym h.state) (start_bounded h.input h.numbers);
  here =
      λ i d o. absurd (not_open (sym (ap (λ x. (board_of s.fixed.plan x).condition i) h.state ∙ fresh_phase s.fixed.plan
      h.input i) ∙ o));
  ahead = λ i d p. ap (λ (x : State). whole_condition (x.condition i)) h.state;
  blocks = λ d. subst (λ (x : State). AreApart (x.memories.devices d).blocks) (sym h.state) tt;
  settled =
      subst (λ m. AreSettled s.fixed.plan m s.state.condition) (sym h.entered)
      (subst (λ (x : State). AreSettled s.fixed.plan (λ i. []) x.condition) (sym h.state)
      (record { resting = λ i k m e. absurd (cc e); settled = λ i. refl }));
}
  where
    not_open : untouched ≡ is_opened → ⊥
    not_open e = cc e

starts_fresh : (s : FineState) → IsStart s → IsFresh (board_of s.fixed.plan s.state)
starts_fresh s h = record {
  place = ap (λ (x : State). x.place) h.state;
  items = λ i. ap (λ x. (board_of s.fixed.plan x).condition i) h.state ∙ fresh_phase s.fixed.plan h.input i;
}

-- An open item's own part tells whether it steps or closes.

not_both : (c : Condition) → has_step c ≡ true → is_finished c ≡ true → ⊥
not_both (Opened (Asks r k)) h f = absurd (false≢true f)
not_both (Opened (Finished t)) h f = absurd (false≢true h)
not_both Untouched h f = absurd (false≢true h)
not_both (Generated captured) h f = absurd (false≢true h)
not_both Closed h f = absurd (false≢true h)
not_both Passed h f = absurd (false≢true h)

one_next : (s t : FineState) (i : ℕ) → own_of s.fixed.plan s.state s.entered i ≡ own_of t.fixed.plan t.state t.entered i →
    MayDo s (Step i) → MayDo t (Close i) → ⊥
one_next s t i same h k =
    let a = on_true s.fixed.plan i (λ w. has_step (s.state.condition i)) h.enabled in
    let b = on_true t.fixed.plan i (λ w. is_finished (t.state.condition i)) k.enabled in
    let e : s.state.condition i ≡ t.state.condition i = sym
    (at_item s.fixed.plan i a.0 a.1 Untouched (λ w. s.state.condition i)) ∙
    (ap (λ (o : Own). o.condition) same ∙ at_item t.fixed.plan i b.0 b.1 Untouched (λ w. t.state.condition i)) in
    not_both (t.state.condition i) (subst (λ c. has_step c ≡ true) e a.2) b.2

pub step_laws : StepLaws parts
step_laws = record {
  starts_valid = starts_valid;
  starts_fresh = starts_fresh;
  starts_plan = λ s h. is_plan s.fixed.plan h.lawful;
  starts_sound = λ s h. h.sound;
  allows = λ s e v h. allows s e h;
  sound = λ s e v h. h.sound;
  outcome = λ s e v h. (next_move s e, refl);
  stays_valid = λ s e t v d. (does_next s v e t d).valid;
  keeps_fixed = λ s e t v d. (does_next s v e t d).fixed;
  moves = λ s e t v d. (does_next s v e t d).moves;
  one_next = λ s t i v w f o h k. one_next s t i o h k;
}
