-- Program order action by action: each item done action by action with nothing in between, beside the run that does it
-- whole.
use Rattle.base.specs.declared.item.Event.{Event}
use Rattle.base.specs.declared.item.Event.TheVariants as event
use Rattle.std.proofs.Common.{◌≡◌, ◌⊎◌, ℕ, zero, suc, ◌+◌, ◌<◌, ◌≤◌, ◌==◌, Bool, true, false, List, [], ◌∷◌, length, Option, Some, None, refl, sym, ◌∙◌, ap, ap₂, inl, inr, subst, arith}
use Rattle.std.specs.Prelude.{not, ◌&&◌, ◌||◌, option_map, slice_get, if◌then◌else◌}
use mathlib.Core.Path.{fun_ext}
use Rattle.std.proofs.lemmas.Bool.{true≢false, cases_eq, and_parts, cond-true, cond-false, cond_both, eq-eqb, ne_eqb}
use Rattle.std.proofs.lemmas.Option.{same_Some, none-some}
use Rattle.base.specs.declared.tree.Program.{Program}
use Rattle.base.specs.declared.item.MapItem.{MapItem}
use Rattle.base.specs.declared.item.ItemKind.{ItemKind}
use Rattle.base.specs.declared.item.ItemKind.TheVariants as kind
use Rattle.base.specs.declared.item.Cell.{Cell}
use Rattle.base.specs.Memory.{Scalars, is_in}
use Rattle.base.specs.Footprint.{reads, writes}
use Rattle.base.specs.Actions.{touches_in}
use Rattle.std.specs.List.{list_any}
use Rattle.base.specs.Meaning.{Run as Region_run}
use Rattle.base.specs.Items.{Work, Plan, plan}
use Rattle.base.specs.Map.{Memories, AllMemories, memories_at, with_memories_at, Fill}
use Rattle.base.proofs.Devices.{changed_same}
use Rattle.two_memories.proofs.OwnDevice.{device_at}
use Rattle.fine_headline.proofs.FineSpots.{else_put}
use Rattle.base.specs.Machine.{State as Whole, Condition as Whole_condition, opening, closing, worked_on, moved_on}
use Rattle.base.specs.Machine as two
use Rattle.base.specs.Machine.Condition.{Opened as opened, Closed as closed, Generated as generated, Passed as passed}
use Rattle.base.specs.Accepted.{IsAccepted, is_target}
use Rattle.base.specs.Turns.{turns_in_work, Independent}
use Rattle.base.specs.Headline.{AreNumbers, IsFill}
use Rattle.base.proofs.Closing.{closing_keeps}
use Rattle.fine_machine.specs.Left.{Finished}
use Rattle.fine_machine.specs.Machine.{State, Condition, Generated, Opened, Closed, Passed, as_whole, whole_condition, with_condition, moves_on, open_item, host_done, start}
use Rattle.fine_machine.specs.Headline.{FineShowsErased}
use Rattle.machine.specs.Board.Move.{Open, Wait}
use Rattle.machine.specs.Machine.{Does, DoesItem, OpensAndFinishes}
use Rattle.two_memories.specs.Two.{IsLawful, AllLawful, BoundedFill, items_of}
use Rattle.two_memories.proofs.PlanItems.{Which, which, at_item, at_none}
use Rattle.two_memories.proofs.PlanItems.Which.{item, past}
use Rattle.headline.specs.Stepwise.{item_events}
use Rattle.headline.proofs.ProgramOrder.{program_order_is_right}
use Rattle.headline.proofs.ProgramChain.{state_at, first_run, next_run, end_state, end_run}
use Rattle.fine_headline.specs.FineState.{FineState, IsBounded, BoundedCondition, IsStart, result_of, parts}
use Rattle.fine_headline.proofs.FromLaws.{fine_state, does_step, none_entered, Chain}
use Rattle.fine_headline.proofs.Stepping.{with_whole}
use Rattle.fine_headline.proofs.Quietly.{closed_by}
use Rattle.fine_headline.proofs.Reaching.{map_parts}
use Rattle.fine_headline.proofs.Finishing.{Ended, finish}
use Rattle.fine_headline.proofs.Storing.{AreStored, stored_on}
use Rattle.fine_headline.proofs.ItemFinishes.{SameHost, ItemDone, opened_whole, item_done}
use Rattle.fine_headline.proofs.KernelReaching.{IsSafe, turns_apart, is_mapped}
use Rattle.fine_headline.proofs.StepLaws.{step_laws}
use Rattle.machine.proofs.TurnStates.{IsKnown, known_start, item_known}

abbrev whole_of : ℕ → AllMemories → Scalars → List ℕ → List ℕ → (ℕ → Whole_condition) → Whole
whole_of place memories scalars input output condition =
    record {
      place = place;
      memories = memories;
      scalars = scalars;
      input = input;
      output = output;
      condition =
          condition;
    }

whole_same : (a b : Whole) → a.place ≡ b.place → a.memories ≡ b.memories → a.scalars ≡ b.scalars → a.input ≡ b.input →
    a.output ≡ b.output → a.condition ≡ b.condition → a ≡ b
whole_same a b p m s i o c =
    ap (λ x. whole_of x a.memories a.scalars a.input a.output a.condition) p
    ∙ (ap (λ x. whole_of b.place x a.scalars a.input a.output a.condition) m
    ∙ (ap (λ x. whole_of b.place b.memories x a.input a.output a.condition) s
    ∙ (ap (λ x. whole_of b.place b.memories b.scalars x a.output a.condition) i
    ∙ (ap (λ x. whole_of b.place b.memories b.scalars b.input x a.condition) o
    ∙ ap (λ x. whole_of b.place b.memories b.scalars b.input b.output x) c))))

-- where a block lies on a device there is storage
abbrev AllStored : State → Type 0
AllStored t = (d : ℕ) → AreStored (memories_at d t.memories)

-- marking an item is the same in both machines
marked_whole : (i : ℕ) (c : Condition) (s : State) →
    as_whole (with_condition i c s) ≡ two.with_condition i (whole_condition c) (as_whole s)
marked_whole i c s = ap (λ x. whole_of s.place s.memories s.scalars s.input s.output x) (sym (with_whole i c s))

moved_whole : (d : Bool) (s : State) → as_whole (moves_on d s) ≡ moved_on d (as_whole s)
moved_whole true s = refl
moved_whole false s = refl

record Same_done (k : ItemKind) (r : Region_run) (x : State) : Type 0 where
  place : (host_done k r x).place ≡ x.place
  memories : (host_done k r x).memories ≡ x.memories
  condition : (host_done k r x).condition ≡ x.condition

same_done : (k : ItemKind) (r : Region_run) (x : State) → Same_done k r x
same_done kind.Host r x = record { place = refl; memories = refl; condition = refl }
same_done kind.Target r x = record { place = refl; memories = refl; condition = refl }
same_done kind.Begin r x = record { place = refl; memories = refl; condition = refl }
same_done kind.End r x = record { place = refl; memories = refl; condition = refl }
same_done kind.Enter r x = record { place = refl; memories = refl; condition = refl }
same_done kind.Exit r x = record { place = refl; memories = refl; condition = refl }
same_done kind.Update r x = record { place = refl; memories = refl; condition = refl }
same_done kind.Wait r x = record { place = refl; memories = refl; condition = refl }

-- marking an item as generated keeps numbers below 2^64
gen_bounded : (i : ℕ) (t : State) → IsBounded t → IsBounded (moves_on false (with_condition i (Generated t.scalars) t))
gen_bounded i t b = record {
  host = b.host;
  devices = b.devices;
  scalars = b.scalars;
  input = b.input;
  condition = λ k. cond_both (k == i) (Generated t.scalars) (t.condition k) BoundedCondition (λ e. b.scalars)
      (λ e. b.condition k);
}

module _ (plan : Plan) (fill : ℕ → Fill) (order : ℕ → List ℕ) (i : ℕ) (w : Work)
    (at : slice_get plan.items i ≡ Some w) (lawful : IsLawful w) (filled : BoundedFill fill)
    (apart : is_target w.kind ≡ true → Independent (turns_in_work w))
    (mapped : is_target w.kind ≡ true → (c : Cell) → (reads (touches_in w) c || writes (touches_in w) c) ≡ true →
    list_any (λ m. is_in c m.section) w.maps ≡ true) where
  -- an item that is opened and closed whole
  record OpensCloses (t : State) (m : ℕ → List MapItem) (s : Whole) : Type 0 where
    state : State
    entered : ℕ → List MapItem
    opens : OpensAndFinishes parts i (fine_state plan fill order m t) (fine_state plan fill order entered state)
    same : as_whole state ≡ s
    stored : AllStored state

  opens_closes : (t : State) (m : ℕ → List MapItem) (s : Whole) → AllStored t → IsBounded t → two.is_wait w.kind ≡ false →
      two.Run plan fill (Some (as_whole t)) (event.Open i ∷ event.Close i ∷ []) (Some s) → OpensCloses t m s
  opens_closes t m s h b other r = go (opening (fill i) w (memories_at w.device t.memories)) refl
    where
      safe : IsSafe (fill i) w t
      safe = record { bounded = b; filled = filled i; apart = apart; mapped = mapped }

      waits : two.is_waiting w.deferred (whole_condition (t.condition i)) ≡ true
      waits =
          (and_parts (two.is_waiting w.deferred (whole_condition (t.condition i))) _
          (and_parts (w.deferred || (t.place == i)) _ (and_parts (not (two.is_wait w.kind)) _
          (sym (at_item plan i w at false (λ w. not (two.is_wait w.kind) && ((w.deferred || (t.place ==
          i)) && (two.is_waiting w.deferred (whole_condition (t.condition i)) && two.is_ready plan (as_whole t) i))))
          ∙ r.0)).1).1).0

      after_open : (o : Option Memories) → opening (fill i) w (memories_at w.device t.memories) ≡ o →
          two.Run plan fill (option_map (opened_whole plan (fill i) (order i) i w lawful t (h w.device) safe) o) (event.Close i ∷ []) (Some s)
      after_open o e =
          subst (λ x. two.Run plan fill x (event.Close i ∷ []) (Some s))
          (at_item plan i w at None (λ w. two.open_item plan (fill i) i w (as_whole t)) ∙ ap
          (option_map (opened_whole plan (fill i) (order i) i w lawful t (h w.device) safe)) e) r.1

      -- from the two memories after the opening
      closes : (m1 : Memories) → opening (fill i) w (memories_at w.device t.memories) ≡ Some m1 → OpensCloses t m s
      closes m1 e = record {
        state = closed_by i w d.run f.before;
        entered = f.left_in;
        opens = (fine_state plan fill order m u, f.steps, does, f.finishes);
        same = ended;
        stored = λ e. stored_at e (cases_eq e w.device);
      }
        where
          s1 : Whole
          s1 = opened_whole plan (fill i) (order i) i w lawful t (h w.device) safe m1

          open_here : (opened_whole plan (fill i) (order i) i w lawful t (h w.device) safe m1).condition i ≡ opened
              (two.captured_by (whole_condition (t.condition i)) t.scalars) (worked_on plan.lengths w.kind m1)
          open_here =
              cond-true (i == i) (opened (two.captured_by (whole_condition (t.condition i)) t.scalars)
              (worked_on plan.lengths w.kind m1)) (whole_condition (t.condition i)) (eq-eqb i i refl)

          parts_of : (s2 : Whole) × (closing w (opened (two.captured_by (whole_condition (t.condition i)) t.scalars)
              (worked_on plan.lengths w.kind m1)) (opened_whole plan (fill i) (order i) i w lawful t (h w.device) safe m1) ≡ Some s2)
              × (moved_on w.deferred (two.with_condition i closed s2) ≡ s)
          parts_of =
              map_parts (λ x. moved_on w.deferred (two.with_condition i closed x))
              (closing w (opened (two.captured_by (whole_condition (t.condition i)) t.scalars)
              (worked_on plan.lengths w.kind m1)) s1) s
              (sym (at_item plan i w at None (λ w. option_map (λ x. moved_on w.deferred (two.with_condition i closed x))
              (closing w (s1.condition i) s1)) ∙ ap (λ c. option_map
              (λ x. moved_on w.deferred (two.with_condition i closed x)) (closing w c s1)) open_here)
              ∙ sym (after_open (Some m1) e).1)

          s2 : Whole
          s2 = parts_of.0

          kept : (parts_of.0.place ≡ t.place) × (parts_of.0.condition ≡ (opened_whole plan
              (fill i) (order i) i w lawful t (h w.device) safe m1).condition)
          kept =
              closing_keeps w (opened (two.captured_by (whole_condition (t.condition i)) t.scalars)
              (worked_on plan.lengths w.kind m1)) s1 s2 parts_of.1

          d : ItemDone plan (fill i) (order i) i w lawful t (h w.device) safe parts_of.0
          d = item_done plan (fill i) (order i) i w lawful t (h w.device) safe other waits m1 e s2 parts_of.1

          u : State
          u = with_condition i (Opened d.left) t

          does : Does parts (fine_state plan fill order m t) (Open i) (fine_state plan fill order m u)
          does =
              subst (λ x. Does parts (fine_state plan fill order m t) (Open i) x)
              (ap (result_of (fine_state plan fill order m t) (event.Open i))
              (at_item plan i w at None (λ w. open_item (order i) i w t) ∙ ap
              (option_map (λ left. with_condition i (Opened left) t)) d.is_left))
              (does_step plan fill order m t (event.Open i) r.0)

          here : u.condition i ≡ Opened d.left
          here = cond-true (i == i) (Opened d.left) (t.condition i) (eq-eqb i i refl)

          f : Ended (record { plan = plan; fill = fill; order = order }) i w at u m d.run d.end
          f =
              finish (record { plan = plan; fill = fill; order = order }) i w at d.left (memories_at w.device t.memories)
              (Finished d.run) d.end d.reaches d.run refl u m here
              (ap (λ e. memories_at e t.memories) (device_at plan i w at))

          y : State
          y = host_done w.kind d.run f.before

          done : Same_done w.kind d.run f.before
          done = same_done w.kind d.run f.before

          moved_memories : (b : Bool) (x : State) → (moves_on b x).memories ≡ x.memories
          moved_memories true x = refl
          moved_memories false x = refl

          went_memories : f.before.memories ≡ with_memories_at w.device d.end t.memories
          went_memories =
              f.went.memories ∙ ap (λ e. with_memories_at e d.end t.memories) (device_at plan i w at)

          memories_now : (closed_by i w d.run f.before).memories ≡ with_memories_at w.device d.end t.memories
          memories_now = moved_memories w.deferred (with_condition i Closed y) ∙ (done.memories ∙ went_memories)

          stored_at : (e : ℕ) → (e ≡ w.device) ⊎ (e ≡ w.device → ⊥) →
              AreStored (memories_at e (closed_by i w d.run f.before).memories)
          stored_at e (inl q) =
              subst (λ x. AreStored (memories_at x (closed_by i w d.run f.before).memories)) (sym q)
              (stored_on d.end (memories_at w.device (closed_by i w d.run f.before).memories)
              (ap (λ (x : AllMemories). x.devices w.device) memories_now
              ∙ changed_same w.device d.end.device t.memories.devices) d.stored)
          stored_at e (inr n) =
              stored_on (memories_at e t.memories) (memories_at e (closed_by i w d.run f.before).memories)
              (ap (λ (x : AllMemories). x.devices e) memories_now ∙ else_put w.device d.end t.memories e n) (h e)

          same_host : SameHost (host_done w.kind d.run f.before) parts_of.0
          same_host = d.host f.before f.went.scalars f.went.input f.went.output

          conditions : (k : ℕ) →
              (if k == i then closed else whole_condition (y.condition k)) ≡ (if k ==
              i then closed else parts_of.0.condition k)
          conditions k = by (cases_eq k i)
            where
              by : (k ≡ i) ⊎ (k ≡ i → ⊥) →
                  (if k == i then closed else whole_condition (y.condition k)) ≡ (if k ==
                  i then closed else parts_of.0.condition k)
              by (inl q) =
                  cond-true (k == i) closed (whole_condition (y.condition k)) (eq-eqb k i q) ∙ sym
                  (cond-true (k == i) closed (s2.condition k) (eq-eqb k i q))
              by (inr q) =
                  ap (λ c. if k == i then closed else c)
                  (ap whole_condition (ap (λ (g : ℕ → Condition). g k) done.condition ∙
                  (f.went.others k q ∙ cond-false (k == i) (Opened d.left) (t.condition k) (ne_eqb k i q)))
                  ∙ sym (ap (λ (g : ℕ → Whole_condition). g k) kept.1 ∙ cond-false (k == i)
                  (opened (two.captured_by (whole_condition (t.condition i)) t.scalars)
                  (worked_on plan.lengths w.kind m1)) (whole_condition (t.condition k)) (ne_eqb k i q)))

          ended : as_whole (closed_by i w d.run f.before) ≡ s
          ended =
              moved_whole w.deferred (with_condition i Closed y)
              ∙ (ap (moved_on w.deferred) (marked_whole i Closed y
              ∙ whole_same (two.with_condition i closed (as_whole y)) (two.with_condition i closed s2)
              (done.place ∙ (f.went.place ∙ sym kept.0))
              (done.memories ∙ (went_memories ∙ sym d.memories)) same_host.scalars same_host.input same_host.output
              (fun_ext conditions))
              ∙ parts_of.2)

      go : (o : Option Memories) → opening (fill i) w (memories_at w.device t.memories) ≡ o → OpensCloses t m s
      go None e = absurd (after_open None e)
      go (Some m1) e = closes m1 e

  -- an item of the run that does items whole
  pub record ItemAfter (t : State) (m : ℕ → List MapItem) (s : Whole) : Type 0 where
    pub state : State
    pub entered : ℕ → List MapItem
    pub does : DoesItem parts (items_of plan) i (fine_state plan fill order m t) (fine_state plan fill order entered state)
    pub same : as_whole state ≡ s
    pub stored : AllStored state

  pub item_after : (t : State) (m : ℕ → List MapItem) (s : Whole) → AllStored t → IsBounded t →
      two.Run plan fill (Some (as_whole t)) (item_events (two.is_wait w.kind) w.deferred i) (Some s) → ItemAfter t m s
  item_after t m s h b r = go (two.is_wait w.kind) refl w.deferred refl
    where
      waits : (items_of plan).waits i ≡ two.is_wait w.kind
      waits = at_item plan i w at (i == length plan.items) (λ w. two.is_wait w.kind)

      deferred : (items_of plan).deferred i ≡ w.deferred
      deferred = at_item plan i w at false (λ w. w.deferred)

      differ : {A : Type 0} (b : Bool) → b ≡ true → b ≡ false → A
      differ b p q = absurd (true≢false (sym p ∙ q))

      run_as : (b d : Bool) → two.is_wait w.kind ≡ b → w.deferred ≡ d →
          two.Run plan fill (Some (as_whole t)) (item_events b d i) (Some s)
      run_as b d p q =
          subst (λ (es : List Event). two.Run plan fill (Some (as_whole t)) es (Some s))
          (ap₂ (λ (x y : Bool). item_events x y i) p q) r

      go : (b : Bool) → two.is_wait w.kind ≡ b → (d : Bool) → w.deferred ≡ d → ItemAfter t m s
      go true p d q =
          let k = run_as true d p q in
          record {
            state = moves_on false (with_condition i Passed t);
            entered = m;
            does = record {
              waits = λ e. does_step plan fill order m t (event.Wait i) k.0;
              here = λ e f. differ ((items_of plan).waits i) (waits ∙ p) e;
              deferred = λ e f. differ ((items_of plan).waits i) (waits ∙ p) e;
            };
            same =
                ap (moved_on false) (marked_whole i Passed t) ∙ sym
                (same_Some s (moved_on false (two.with_condition i passed (as_whole t))) k.1);
            stored = h;
          }
      go false p false q =
          let o = opens_closes t m s h b p (run_as false false p q) in
          record {
            state = o.state;
            entered = o.entered;
            does = record {
              waits = λ e. differ ((items_of plan).waits i) e (waits ∙ p);
              here = λ e f. o.opens;
              deferred = λ e f. differ ((items_of plan).deferred i) f (deferred ∙ q);
            };
            same = o.same;
            stored = o.stored;
          }
      go false p true q =
          let k = run_as false true p q in
          let g : State = moves_on false (with_condition i (Generated t.scalars) t) in
          let o = opens_closes g m s h (gen_bounded i t b) p
          (subst (λ x. two.Run plan fill (Some x) (event.Open i ∷ event.Close i ∷ []) (Some s))
          (sym (ap (moved_on false) (marked_whole i (Generated t.scalars) t))) k.1) in
          record {
            state = o.state;
            entered = o.entered;
            does = record {
              waits = λ e. differ ((items_of plan).waits i) e (waits ∙ p);
              here = λ e f. differ ((items_of plan).deferred i) (deferred ∙ q) f;
              deferred = λ e f. (fine_state plan fill order m g, does_step plan fill order m t (event.Gen i) k.0, o.opens);
            };
            same = o.same;
            stored = o.stored;
          }

module _ (p : Program) (accepted : IsAccepted (plan p)) (lawful : AllLawful (plan p)) (input : List ℕ) (fill : ℕ → Fill)
    (order : ℕ → List ℕ) (numbers : AreNumbers input) (filled : IsFill fill) where
  abbrev begin : FineState
  begin = fine_state (plan p) fill order none_entered (start input)

  starts : IsStart begin
  starts = record {
    lawful = lawful;
    fill = filled;
    input = input;
    numbers = numbers;
    state = refl;
    entered = refl;
    sound = refl;
  }

  -- a state of program order after k items, beside the run that does items whole
  record IsAfter (k : ℕ) (entered : ℕ → List MapItem) (t : State) : Type 0 where
    same : as_whole t ≡ state_at p accepted input fill numbers k
    stored : AllStored t
    known : IsKnown parts begin (fine_state (plan p) fill order entered t)

  record After (k : ℕ) : Type 0 where
    entered : ℕ → List MapItem
    state : State
    is : k ≤ length (plan p).items → IsAfter k entered state

  abbrev fine_at : {k : ℕ} → After k → FineState
  fine_at a = fine_state (plan p) fill order a.entered a.state

  next_item : (k : ℕ) (w : Work) (at : slice_get (plan p).items k ≡ Some w) → k < length (plan p).items →
      (a : After k) →
      ItemAfter (plan p) fill order k w at (lawful k w at) filled (turns_apart (plan p) accepted k w at)
      (is_mapped (plan p) accepted k w at) a.state
      a.entered (state_at p accepted input fill numbers (suc k))
  next_item k w at lt a =
      let h = a.is (omega arith) in
      item_after (plan p) fill order k w at (lawful k w at) filled (turns_apart (plan p) accepted k w at)
      (is_mapped (plan p) accepted k w at) a.state
      a.entered (state_at p accepted input fill numbers (suc k)) h.stored h.known.valid.bounded
      (subst (λ x. two.Run (plan p) fill (Some x) (item_events (two.is_wait w.kind) w.deferred k)
      (Some (state_at p accepted input fill numbers (suc k)))) (sym h.same)
      (next_run p accepted input fill numbers k w at))

  abbrev next_after : (k : ℕ) → After k → Which (plan p) k → After (suc k)
  next_after k a (item w at lt) = record {
    entered = (next_item k w at lt a).entered;
    state = (next_item k w at lt a).state;
    is = λ le. record {
      same = (next_item k w at lt a).same;
      stored = (next_item k w at lt a).stored;
      known = item_known parts step_laws begin starts k (fine_state (plan p) fill order a.entered a.state)
          (fine_state (plan p) fill order (next_item k w at lt a).entered (next_item k w at lt a).state)
          (a.is (omega arith)).known (next_item k w at lt a).does;
    };
  }
  next_after k a (past none ge) =
      record { entered = a.entered; state = moves_on false a.state; is = λ le. absurd (omega arith) }

  abbrev after : (k : ℕ) → After k
  after zero = record {
    entered = none_entered;
    state = start input;
    is = λ le. record {
      same =
          sym (same_Some (state_at p accepted input fill numbers 0) (two.start input)
          (first_run p accepted input fill numbers 0));
      stored = λ d. record { apart = tt; storage = λ c b e. absurd (none-some b e) };
      known = known_start parts step_laws begin starts;
    };
  }
  after (suc k) = next_after k (after k) (which (plan p) k)

  -- the end may be done after the last item
  end_enabled : (m : ℕ → List MapItem) (t : State) → IsAfter (length (plan p).items) m t → two.enabled (plan p) (as_whole t) event.End ≡ true
  end_enabled m t h = ap (λ s. two.enabled (plan p) s event.End) h.same ∙ (end_run p accepted input fill numbers).0

  does_next : (k : ℕ) (a : After k) (d : Which (plan p) k) → k ≤ length (plan p).items →
      DoesItem parts (items_of (plan p)) k (fine_state (plan p) fill order a.entered a.state)
      (fine_state (plan p) fill order (next_after k a d).entered (next_after k a d).state)
  does_next k a (item w at lt) le = (next_item k w at lt a).does
  does_next k a (past none ge) le =
      let last : length (plan p).items ≡ k = omega arith in
      let waits : (items_of (plan p)).waits k ≡ true = at_none (plan p) k none (k == length (plan p).items)
      (λ w. two.is_wait w.kind) ∙ eq-eqb k (length (plan p).items) (sym last) in
      record {
        waits = λ e. ended k last (end_enabled a.entered a.state (subst (λ n. IsAfter n a.entered a.state) (sym last) (a.is le)));
        here = λ e f. absurd (true≢false (sym waits ∙ e));
        deferred = λ e f. absurd (true≢false (sym waits ∙ e));
      }
    where
      ended : (k : ℕ) → length (plan p).items ≡ k → two.enabled (plan p) (as_whole a.state) event.End ≡ true →
          Does parts (fine_state (plan p) fill order a.entered a.state) (Wait k)
          (fine_state (plan p) fill order a.entered (moves_on false a.state))
      ended k e h =
          subst (λ n. Does parts (fine_state (plan p) fill order a.entered a.state) (Wait n)
          (fine_state (plan p) fill order a.entered (moves_on false a.state))) e
          (does_step (plan p) fill order a.entered a.state event.End h)

  each : (k : ℕ) → k < length (plan p).items + 1 →
      DoesItem parts (items_of (plan p)) k (fine_state (plan p) fill order (after k).entered (after k).state)
      (fine_state (plan p) fill order (after (k + 1)).entered (after (k + 1)).state)
  each k lt =
      let up : suc k ≡ k + 1 = omega arith in
      subst (λ n. DoesItem parts (items_of (plan p)) k (fine_state (plan p) fill order (after k).entered (after k).state)
      (fine_state (plan p) fill order (after n).entered (after n).state)) up
      (does_next k (after k) (which (plan p) k) (omega arith))

  -- after the end the state shows what the program does without its directives
  shown : (m : ℕ → List MapItem) (t : State) → IsAfter (length (plan p).items) m t → FineShowsErased p input (moves_on false t)
  shown m t h =
      let right = (program_order_is_right p accepted input fill numbers).shows in
      let last : moved_on false (state_at p accepted input fill numbers (length (plan p).items)) ≡ end_state p accepted
      input fill numbers =
      sym (same_Some (end_state p accepted input fill numbers)
      (moved_on false (state_at p accepted input fill numbers (length (plan p).items)))
      (end_run p accepted input fill numbers).1) in
      let same : as_whole (moves_on false t) ≡ end_state p accepted input fill numbers = ap (moved_on false) h.same
      ∙ last in
      record {
        plain = right.plain;
        is_erased = right.is_erased;
        output = ap (λ (s : Whole). s.output) same ∙ right.output;
        marked = λ c i m. ap (λ (s : Whole). s.memories.host c) same ∙ right.marked c i m;
      }

  shows_last : (k : ℕ) (a : After k) (d : Which (plan p) k) → k ≡ length (plan p).items →
      FineShowsErased p input (next_after k a d).state
  shows_last k a (item w at lt) e = absurd (omega arith)
  shows_last k a (past none ge) e = shown a.entered a.state (subst (λ n. IsAfter n a.entered a.state) e (a.is (omega arith)))

  pub fine_chain : Chain p input fill order
  fine_chain = record {
    turn =
        record {
          after = λ k. fine_state (plan p) fill order (after k).entered (after k).state;
          begins = refl;
          each = each;
          sound =
              refl;
        };
    shows =
        subst (λ n. FineShowsErased p input (after n).state) (next_number (length (plan p).items))
        (shows_last (length (plan p).items) (after (length (plan p).items))
        (which (plan p) (length (plan p).items)) refl);
  }
    where
      next_number : (n : ℕ) → suc n ≡ n + 1
      next_number n = omega arith
