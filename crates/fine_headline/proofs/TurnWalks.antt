-- Program order has the blocks of the walk, and what is left of its item is in the walk.
use Rattle.base.specs.declared.item.Event.TheVariants as event
use Rattle.std.proofs.Common.{◌≡◌, ◌⊎◌, ℕ, zero, suc, ◌+◌, ◌<◌, ◌≤◌, ◌==◌, Bool, true, false, List, [], ◌∷◌, length, Option, Some, None, refl, sym, ◌∙◌, ap, inl, inr, arith, subst, true≢false}
use Rattle.std.specs.Prelude.{not, ◌&&◌, ◌||◌, slice_get, option_map, if◌then◌else◌}
use Rattle.std.specs.List.{AllByRecursion}
use Rattle.std.proofs.lemmas.Bool.{false≢true, cases_Bool, cases_eq, cases_lt, and_parts, eqb-true, eq-eqb, ne_eqb, cond-true, false_from_ne_true}
use Rattle.std.proofs.lemmas.Option.{slice_get_within}
use Rattle.base.specs.declared.item.MapItem.{MapItem}
use Rattle.base.specs.declared.item.ItemKind.{ItemKind}
use Rattle.base.specs.declared.item.ItemKind.TheVariants as kind
use Rattle.base.specs.Items.{Work, Plan}
use Rattle.base.specs.Map.{Block, Device, Memories, AllMemories, Fill}
use Rattle.base.specs.Memory.{changed}
use Rattle.base.proofs.Devices.{changed_same, changed_other, memories_back}
use Rattle.two_memories.proofs.OwnDevice.{device_at}
use Rattle.fine_headline.proofs.FineSpots.{own_memories, else_put}
use Rattle.base.specs.Machine.{on_item}
use Rattle.base.specs.Machine as two
use Rattle.base.specs.Actions.{Acted, acts_of}
use Rattle.fine_machine.specs.Left.{Left, Finished, Asks, Answer, item_left}
use Rattle.fine_machine.specs.Action.{act}
use Rattle.fine_machine.specs.Machine.{State, Condition, Untouched, Generated, Opened, Closed, Passed, as_whole, whole_condition, with_condition, with_memories, moves_on, has_step, is_finished, begun, open_item, step_item, close_item, host_done}
use Rattle.fine_machine.specs.Machine as fine
use Rattle.regions.proofs.ValueBounds.{there_at}
use Rattle.machine.specs.Board.{Move, item_of, Condition as Phase}
use Rattle.machine.specs.Board.Move.{Gen, Open, Step, Close, Wait}
use Rattle.machine.specs.Board.Condition.{Untouched as untouched, Closed as closed}
use Rattle.machine.specs.Machine.{Does, Runs, Finishes, DoesItem, InOwnTurn}
use Rattle.machine.proofs.TurnStates.{IsKnown, known_next}
use Rattle.machine.proofs.TurnBoards.{reached, turn_known}
use Rattle.two_memories.specs.Two.{device_of, items_of, own_part, tables_before, blocks_before}
use Rattle.two_memories.proofs.PlanItems.{Which, which, own_at, at_item}
use Rattle.two_memories.proofs.PlanItems.Which.{item, past}
use Rattle.two_memories.proofs.ByKind.{acts_wait}
use Rattle.two_memories.proofs.WalkBlocks.{walks_blocks}
use Rattle.two_memories.proofs.TurnWalk.{before_next, from_none}
use Rattle.fine_headline.specs.FineState.{Fixed, FineState, IsValid, IsStart, BoundedCondition, board_of, is_resting, entered_by, entered_after, result_of, next, parts}
use Rattle.fine_headline.proofs.Acting.{IsActed, act_kept}
use Rattle.fine_headline.proofs.StepLaws.{step_laws, begun_fine, none_waiting, kept_memories, moved_memories, moved_condition}
use Rattle.fine_headline.proofs.Quietly.{closed_by}
use Rattle.fine_headline.proofs.Walking.{InWalk}
use Rattle.fine_headline.proofs.ItemWalks.{item_walks}

-- how an item of a state stands, by how far it is
abbrev pub TurnAt : Plan → Fill → ℕ → Work → Condition → List Block → List MapItem → Type 0
TurnAt plan fill i w Untouched bs ms = bs ≡ blocks_before plan i
TurnAt plan fill i w (Generated captured) bs ms = bs ≡ blocks_before plan i
TurnAt plan fill i w (Opened left) bs ms =
    (two.is_wait w.kind ≡ false) × InWalk plan fill i (acts_of w (blocks_before plan i)).blocks ms bs left
TurnAt plan fill i w Closed bs ms = bs ≡ (acts_of w (blocks_before plan i)).blocks
TurnAt plan fill i w Passed bs ms = bs ≡ (acts_of w (blocks_before plan i)).blocks

-- and the other devices beside it
pub record TurnAtState (f : Fixed) (i : ℕ) (w : Work) (s : State) (m : ℕ → List MapItem) : Type 0 where
  pub own : TurnAt f.plan (f.fill i) i w (s.condition i) (own_memories f.plan i s).device.blocks (m i)
  pub others : (e : ℕ) → (e ≡ device_of f.plan i → ⊥) → (s.memories.devices e).blocks ≡ tables_before f.plan i e

waiting_before : (plan : Plan) (fill : Fill) (i : ℕ) (w : Work) (d : Bool) (c : Condition) (bs : List Block)
    (ms : List MapItem) → two.is_waiting d (whole_condition c) ≡ true → TurnAt plan fill i w c bs ms →
    bs ≡ blocks_before plan i
waiting_before plan fill i w d Untouched bs ms e h = h
waiting_before plan fill i w d (Generated a) bs ms e h = h
waiting_before plan fill i w true (Opened left) bs ms e h = absurd (false≢true e)
waiting_before plan fill i w false (Opened left) bs ms e h = absurd (false≢true e)
waiting_before plan fill i w true Closed bs ms e h = absurd (false≢true e)
waiting_before plan fill i w false Closed bs ms e h = absurd (false≢true e)
waiting_before plan fill i w true Passed bs ms e h = absurd (false≢true e)
waiting_before plan fill i w false Passed bs ms e h = absurd (false≢true e)

the_wait : (k : ItemKind) → two.is_wait k ≡ true → k ≡ kind.Wait
the_wait kind.Wait e = refl
the_wait kind.Host e = absurd (false≢true e)
the_wait kind.Target e = absurd (false≢true e)
the_wait kind.Begin e = absurd (false≢true e)
the_wait kind.End e = absurd (false≢true e)
the_wait kind.Enter e = absurd (false≢true e)
the_wait kind.Exit e = absurd (false≢true e)
the_wait kind.Update e = absurd (false≢true e)

wait_after : (plan : Plan) (fill : Fill) (i : ℕ) (w : Work) (c : Condition) (bs : List Block) (ms : List MapItem) →
    two.is_wait w.kind ≡ true → TurnAt plan fill i w c bs ms → bs ≡ (acts_of w (blocks_before plan i)).blocks
wait_after plan fill i w Untouched bs ms e h =
    h ∙ sym (ap (λ (a : Acted). a.blocks) (acts_wait w (blocks_before plan i) (the_wait w.kind e)))
wait_after plan fill i w (Generated a) bs ms e h =
    h ∙ sym (ap (λ (a : Acted). a.blocks) (acts_wait w (blocks_before plan i) (the_wait w.kind e)))
wait_after plan fill i w (Opened left) bs ms e h = absurd (true≢false (sym e ∙ h.0))
wait_after plan fill i w Closed bs ms e h = h
wait_after plan fill i w Passed bs ms e h = h

condition_here : (i : ℕ) (c : Condition) (s : State) → (with_condition i c s).condition i ≡ c
condition_here i c s = cond-true (i == i) c (s.condition i) (eq-eqb i i refl)

module _ (u v : FineState) (i : ℕ) (w : Work) (at : slice_get u.fixed.plan.items i ≡ Some w) (valid : IsValid u)
    (sound : v.failed ≡ false) where
  abbrev Stood : Type 0
  Stood = TurnAtState u.fixed i w u.state u.entered

  abbrev Stands : FineState → Type 0
  Stands x = TurnAtState u.fixed i w x.state x.entered

  gen_walk : Does parts u (Gen i) v → Stood → Stands v
  gen_walk d h =
      subst Stands (sym d.step)
      (record {
        own =
            subst (λ c. TurnAt u.fixed.plan (u.fixed.fill i) i w c (own_memories u.fixed.plan i u.state).device.blocks (u.entered i))
            (sym (condition_here i (Generated u.state.scalars) u.state))
            (go (u.state.condition i) (valid.ahead i tests.1 (omega (arith, place))) h.own);
        others = h.others;
      })
    where
      tests : (u.state.place == i ≡ true) × (on_item u.fixed.plan i false (λ w. w.deferred) ≡ true)
      tests = and_parts (u.state.place == i) (on_item u.fixed.plan i false (λ w. w.deferred)) d.enabled.enabled

      place : u.state.place ≡ i
      place = eqb-true u.state.place i tests.0

      go : (c : Condition) → whole_condition c ≡ whole_condition Untouched →
          TurnAt u.fixed.plan (u.fixed.fill i) i w c (own_memories u.fixed.plan i u.state).device.blocks (u.entered i) →
          (own_memories u.fixed.plan i u.state).device.blocks ≡ blocks_before u.fixed.plan i
      go Untouched e h = h
      go (Generated a) e h = h
      go (Opened left) e h = absurd (cc e)
      go Closed e h = absurd (cc e)
      go Passed e h = absurd (cc e)

  open_walk : Does parts u (Open i) v → Stood → Stands v
  open_walk d h = go (item_left (u.fixed.order i) w (u.state.memories.devices w.device).blocks (begun w (u.state.condition i) u.state)) refl
    where
      test : not (two.is_wait w.kind) && ((w.deferred || (u.state.place == i)) && (two.is_waiting w.deferred
          (whole_condition (u.state.condition i)) && two.is_ready u.fixed.plan (as_whole u.state) i)) ≡ true
      test =
          sym (at_item u.fixed.plan i w at false (λ w. not
          (two.is_wait w.kind) && ((w.deferred || (u.state.place == i)) && (two.is_waiting w.deferred
          (whole_condition (u.state.condition i)) && two.is_ready u.fixed.plan (as_whole u.state) i))))
          ∙ d.enabled.enabled

      parts_of : (not (two.is_wait w.kind) ≡ true) × ((w.deferred || (u.state.place == i)) && (two.is_waiting w.deferred
          (whole_condition (u.state.condition i)) && two.is_ready u.fixed.plan (as_whole u.state) i) ≡ true)
      parts_of = and_parts (not (two.is_wait w.kind)) _ test

      waits : two.is_waiting w.deferred (whole_condition (u.state.condition i)) ≡ true
      waits =
          (and_parts (two.is_waiting w.deferred (whole_condition (u.state.condition i))) _
          (and_parts (w.deferred || (u.state.place == i)) _ parts_of.1).1).0

      same : (own_memories u.fixed.plan i u.state).device.blocks ≡ blocks_before u.fixed.plan i
      same =
          waiting_before u.fixed.plan (u.fixed.fill i) i w w.deferred
          (u.state.condition i) (own_memories u.fixed.plan i u.state).device.blocks (u.entered i) waits h.own

      here : (u.state.memories.devices w.device).blocks ≡ blocks_before u.fixed.plan i
      here =
          ap (λ d. (u.state.memories.devices d).blocks) (sym (device_at u.fixed.plan i w at)) ∙ same

      stepped : (q : Option Left) →
          item_left (u.fixed.order i) w (u.state.memories.devices w.device).blocks (begun w (u.state.condition i) u.state) ≡ q →
          v ≡ result_of u (event.Open i) (option_map (λ left. with_condition i (Opened left) u.state) q)
      stepped q e =
          d.step ∙ ap (result_of u (event.Open i))
          (at_item u.fixed.plan i w at None (λ w. open_item (u.fixed.order i) i w u.state) ∙ ap
          (option_map (λ left. with_condition i (Opened left) u.state)) e)

      go : (q : Option Left) → item_left (u.fixed.order i) w (u.state.memories.devices w.device).blocks (begun w (u.state.condition i) u.state) ≡ q →
          Stands v
      go None e = absurd (true≢false (sym (ap (λ (x : FineState). x.failed) (stepped None e)) ∙ sound))
      go (Some left) e =
          subst Stands (sym (stepped (Some left) e))
          (record {
            others = h.others;
            own = subst (λ c. TurnAt u.fixed.plan (u.fixed.fill i) i w c (own_memories u.fixed.plan i u.state).device.blocks (u.entered i))
                (sym (condition_here i (Opened left) u.state)) (
                  false_from_ne_true (two.is_wait w.kind) (λ e. true≢false (sym parts_of.0 ∙ ap not e)),
                  subst (λ ms. InWalk u.fixed.plan (u.fixed.fill i) i
                      (acts_of w (blocks_before u.fixed.plan i)).blocks ms (own_memories u.fixed.plan i u.state).device.blocks left)
                      (sym (none_waiting u valid i w.deferred waits))
                      (subst (λ bs. InWalk u.fixed.plan (u.fixed.fill i) i
                      (acts_of w (blocks_before u.fixed.plan i)).blocks [] bs left) (sym same)
                      (there_at (InWalk u.fixed.plan (u.fixed.fill i) i (acts_of w (blocks_before u.fixed.plan i)).blocks []
                      (blocks_before u.fixed.plan i)) (item_left (u.fixed.order i) w (blocks_before u.fixed.plan i)
                      (begun w (u.state.condition i) u.state)) left
                      (item_walks u.fixed.plan (u.fixed.fill i) (u.fixed.order i) i w (begun w (u.state.condition i) u.state) at (valid.lawful i w at)
                      (walks_blocks u.fixed.plan valid.lawful i)
                      (begun_fine w (u.state.condition i) u.state (valid.bounded.condition i) valid.bounded))
                      (ap (λ bs. item_left (u.fixed.order i) w bs (begun w (u.state.condition i) u.state)) (sym here) ∙ e))),
                );
          })

  step_walk : Does parts u (Step i) v → Stood → Stands v
  step_walk d h =
      go (u.state.condition i) refl (sym (at_item u.fixed.plan i w at false (λ w. has_step (u.state.condition i))) ∙
      d.enabled.enabled)
    where
      go : (c : Condition) → u.state.condition i ≡ c → has_step c ≡ true → Stands v
      go (Opened (Finished t)) e s = absurd (false≢true s)
      go Untouched e s = absurd (false≢true s)
      go (Generated captured) e s = absurd (false≢true s)
      go Closed e s = absurd (false≢true s)
      go Passed e s = absurd (false≢true s)
      go (Opened (Asks r k)) e s = by (act u.fixed.plan.lengths (u.fixed.fill i) r (own_memories u.fixed.plan i u.state)) refl
        where
          walked : (two.is_wait w.kind ≡ false) × InWalk u.fixed.plan (u.fixed.fill i) i
              (acts_of w (blocks_before u.fixed.plan i)).blocks (u.entered i) (own_memories u.fixed.plan i u.state).device.blocks (Asks r k)
          walked =
              subst (λ c. TurnAt u.fixed.plan (u.fixed.fill i) i w c (own_memories u.fixed.plan i u.state).device.blocks (u.entered i)) e h.own

          bounded : BoundedCondition (Opened (Asks r k))
          bounded = subst BoundedCondition e (valid.bounded.condition i)

          stepped : (q : Option (Answer × Memories)) →
              act u.fixed.plan.lengths (u.fixed.fill i) r (own_memories u.fixed.plan i u.state) ≡ q →
              v ≡ result_of u (event.Step i) (option_map
              (λ p. with_condition i (Opened (k p.0)) (with_memories (device_of u.fixed.plan i) p.1 u.state)) q)
          stepped q f =
              d.step
              ∙ ap (result_of u (event.Step i)) (ap (λ c. step_item u.fixed.plan (u.fixed.fill i) i c u.state) e ∙ ap
              (option_map (λ p. with_condition i (Opened (k p.0)) (with_memories (device_of u.fixed.plan i) p.1 u.state))) f)

          by : (q : Option (Answer × Memories)) → act u.fixed.plan.lengths (u.fixed.fill i) r (own_memories u.fixed.plan i u.state) ≡ q →
              Stands v
          by None f = absurd (true≢false (sym (ap (λ (x : FineState). x.failed) (stepped None f)) ∙ sound))
          by (Some (x, n)) f =
              subst Stands (sym (stepped (Some (x, n)) f))
              (record {
                others =
                    λ j ne. ap (λ (y : Device). y.blocks) (else_put (device_of u.fixed.plan i) n u.state.memories j ne)
                    ∙ h.others j ne;
                own =
                    subst (λ (y : Memories). TurnAt u.fixed.plan (u.fixed.fill i) i w
                    ((with_condition i (Opened (k x)) (with_memories (device_of u.fixed.plan i) n u.state)).condition i)
                    y.device.blocks (entered_after u.fixed.plan u.state u.entered (event.Step i) i))
                    (sym (memories_back (device_of u.fixed.plan i) n u.state.memories))
                    (subst (λ c. TurnAt u.fixed.plan (u.fixed.fill i) i w c n.device.blocks
                    (entered_after u.fixed.plan u.state u.entered (event.Step i) i))
                    (sym (condition_here i (Opened (k x)) (with_memories (device_of u.fixed.plan i) n u.state))) (
                      walked.0,
                      subst (λ ms. InWalk u.fixed.plan (u.fixed.fill i) i
                          (acts_of w (blocks_before u.fixed.plan i)).blocks ms n.device.blocks (k x))
                          (sym (cond-true (i == i) (entered_by (is_resting u.fixed.plan i) (u.state.condition i) (u.entered i))
                          (u.entered i) (eq-eqb i i refl) ∙ ap (λ c. entered_by (is_resting u.fixed.plan i) c (u.entered i)) e))
                          (walked.1.1 x (own_memories u.fixed.plan i u.state) n refl
                          (there_at IsActed (act u.fixed.plan.lengths (u.fixed.fill i) r (own_memories u.fixed.plan i u.state)) (x, n)
                          (act_kept u.fixed.plan.lengths (u.fixed.fill i) r (own_memories u.fixed.plan i u.state) (valid.fill i) bounded.0
                          (kept_memories u valid i)) f).0 f),
                    ));
              })

  close_walk : Does parts u (Close i) v → Stood → Stands v
  close_walk d h =
      go (u.state.condition i) refl (sym (at_item u.fixed.plan i w at false (λ w. is_finished (u.state.condition i))) ∙
      d.enabled.enabled)
    where
      go : (c : Condition) → u.state.condition i ≡ c → is_finished c ≡ true → Stands v
      go (Opened (Asks r k)) e s = absurd (false≢true s)
      go Untouched e s = absurd (false≢true s)
      go (Generated captured) e s = absurd (false≢true s)
      go Closed e s = absurd (false≢true s)
      go Passed e s = absurd (false≢true s)
      go (Opened (Finished t)) e s =
          subst Stands (sym (d.step ∙ ap (result_of u (event.Close i))
          (at_item u.fixed.plan i w at None (λ w. close_item i w (u.state.condition i) u.state) ∙ ap
          (λ c. close_item i w c u.state) e)))
          (record {
            others =
                λ j ne. ap (λ (m : AllMemories). (m.devices j).blocks)
                (moved_memories w.deferred (with_condition i Closed (host_done w.kind t u.state)) ∙ done_memories w.kind)
                ∙ h.others j ne;
            own =
                subst (λ c. TurnAt u.fixed.plan (u.fixed.fill i) i w c (own_memories u.fixed.plan i (closed_by i w t u.state)).device.blocks
                (u.entered i))
                (sym (ap (λ (f : ℕ → Condition). f i) (moved_condition w.deferred
                (with_condition i Closed (host_done w.kind t u.state))) ∙ condition_here i Closed
                (host_done w.kind t u.state)))
                (ap (λ (m : AllMemories). (m.devices (device_of u.fixed.plan i)).blocks)
                (moved_memories w.deferred (with_condition i Closed (host_done w.kind t u.state)) ∙ done_memories w.kind)
                ∙ (subst (λ c. TurnAt u.fixed.plan (u.fixed.fill i) i w c (own_memories u.fixed.plan i u.state).device.blocks (u.entered i)) e
                h.own).1);
          })
        where
          done_memories : (k : ItemKind) → (host_done k t u.state).memories ≡ u.state.memories
          done_memories kind.Host = refl
          done_memories kind.Target = refl
          done_memories kind.Begin = refl
          done_memories kind.End = refl
          done_memories kind.Enter = refl
          done_memories kind.Exit = refl
          done_memories kind.Update = refl
          done_memories kind.Wait = refl

  wait_walk : Does parts u (Wait i) v → Stood → Stands v
  wait_walk d h =
      subst Stands (sym (d.step ∙ ap (λ q. next u (if q then event.End else event.Wait i)) off))
      (record {
        own =
            subst (λ c. TurnAt u.fixed.plan (u.fixed.fill i) i w c (own_memories u.fixed.plan i u.state).device.blocks (u.entered i))
            (sym (condition_here i Passed u.state))
            (wait_after u.fixed.plan (u.fixed.fill i) i w (u.state.condition i) (own_memories u.fixed.plan i u.state).device.blocks
            (u.entered i) is h.own);
        others = h.others;
      })
    where
      off : (i == length u.fixed.plan.items) ≡ false
      off =
          ne_eqb i (length u.fixed.plan.items) (λ e. let lt : i < length u.fixed.plan.items =
          slice_get_within u.fixed.plan.items i w at in absurd (omega (arith, e)))

      test : fine.enabled u.fixed.plan u.state (event.Wait i) ≡ true
      test =
          subst (λ x. fine.enabled u.fixed.plan u.state (if x then event.End else event.Wait i) ≡ true) off
          d.enabled.enabled

      is : two.is_wait w.kind ≡ true
      is =
          sym (at_item u.fixed.plan i w at false (λ w. two.is_wait w.kind)) ∙
          (and_parts (on_item u.fixed.plan i false (λ w. two.is_wait w.kind)) _
          (and_parts (u.state.place == i) _ test).1).0

-- an event keeps its item in the walk
event_walk : (u v : FineState) (e : Move) (w : Work) → slice_get u.fixed.plan.items (item_of e) ≡ Some w → IsValid u →
    v.failed ≡ false → Does parts u e v → TurnAtState u.fixed (item_of e) w u.state u.entered →
    TurnAtState u.fixed (item_of e) w v.state v.entered
event_walk u v (Gen i) w at valid sound d h = gen_walk u v i w at valid sound d h
event_walk u v (Open i) w at valid sound d h = open_walk u v i w at valid sound d h
event_walk u v (Step i) w at valid sound d h = step_walk u v i w at valid sound d h
event_walk u v (Close i) w at valid sound d h = close_walk u v i w at valid sound d h
event_walk u v (Wait i) w at valid sound d h = wait_walk u v i w at valid sound d h

-- What a phase says.

untouched_before : (plan : Plan) (fill : Fill) (i : ℕ) (w : Work) (c : Condition) (bs : List Block)
    (ms : List MapItem) → (own_part w (whole_condition c)).phase ≡ untouched → bs ≡ blocks_before plan i → TurnAt plan
    fill i w c bs ms
untouched_before plan fill i w Untouched bs ms e h = h
untouched_before plan fill i w (Generated a) bs ms e h = absurd (cc e)
untouched_before plan fill i w (Opened left) bs ms e h = absurd (cc e)
untouched_before plan fill i w Closed bs ms e h = absurd (cc e)
untouched_before plan fill i w Passed bs ms e h = absurd (cc e)

closed_after : (plan : Plan) (fill : Fill) (i : ℕ) (w : Work) (c : Condition) (bs : List Block) (ms : List MapItem) →
    (own_part w (whole_condition c)).phase ≡ closed → TurnAt plan fill i w c bs ms →
    bs ≡ (acts_of w (blocks_before plan i)).blocks
closed_after plan fill i w Closed bs ms e h = h
closed_after plan fill i w Passed bs ms e h = h
closed_after plan fill i w Untouched bs ms e h = absurd (cc e)
closed_after plan fill i w (Generated a) bs ms e h = absurd (cc e)
closed_after plan fill i w (Opened left) bs ms e h = absurd (cc e)

-- Runs.

runs_sound : (es : List Move) (s t : FineState) → Runs parts s es t → t.failed ≡ false → s.failed ≡ false
runs_sound [] s t r h = subst (λ (x : FineState). x.failed ≡ false) (sym r) h
runs_sound (e ∷ es) s t r h = r.1.enabled.sound

-- an item done whole, as a run
record AsRun (i : ℕ) (s t : FineState) : Type 0 where
  events : List Move
  own : AllByRecursion (λ e. item_of e ≡ i) events
  run : Runs parts s events t
  sound : s.failed ≡ false

finishing : ℕ → ℕ → List Move
finishing i zero = Close i ∷ []
finishing i (suc k) = Step i ∷ finishing i k

finish_own : (i k : ℕ) → AllByRecursion (λ e. item_of e ≡ i) (finishing i k)
unfolding finishing
finish_own i zero = (refl, tt)
finish_own i (suc k) = (refl, finish_own i k)

finish_runs : (i k : ℕ) (s t : FineState) → Finishes parts i k s t → Runs parts s (finishing i k) t
unfolding finishing
finish_runs i zero s t f = (t, f, refl)
finish_runs i (suc k) s t f = (f.0, f.1, finish_runs i k f.0 t f.2)

as_run : (plan : Plan) (i : ℕ) (s t : FineState) → DoesItem parts (items_of plan) i s t → AsRun i s t
as_run plan i s t d = go (cases_Bool ((items_of plan).waits i)) (cases_Bool ((items_of plan).deferred i))
  where
    go : ((items_of plan).waits i ≡ true) ⊎ ((items_of plan).waits i ≡ false) →
        ((items_of plan).deferred i ≡ true) ⊎ ((items_of plan).deferred i ≡ false) → AsRun i s t
    go (inl w) _ =
        let x = d.waits w in record {
          events = Wait i ∷ [];
          own = (refl, tt);
          run = (t, x, refl);
          sound =
              x.enabled.sound;
        }
    go (inr w) (inr h) =
        let x = d.here w h in
        record {
          events = Open i ∷ finishing i x.1;
          own = (refl, finish_own i x.1);
          run =
              (x.0, x.2, finish_runs i x.1 x.0 t x.3);
          sound = x.2.enabled.sound;
        }
    go (inr w) (inl h) =
        let y = d.deferred w h in
        let x = y.2 in
        record {
          events = Gen i ∷ Open i ∷ finishing i x.1;
          own = (refl, (refl, finish_own i x.1));
          run =
              (y.0, y.1, (x.0, x.2, finish_runs i x.1 x.0 t x.3));
          sound = y.1.enabled.sound;
        }

module _ (start : FineState) (is_start : IsStart start) where
  abbrev AtStart : ℕ → Work → FineState → Type 0
  AtStart i w s = TurnAtState start.fixed i w s.state s.entered

  one_walk : (i : ℕ) (w : Work) (s t : FineState) (e : Move) → slice_get start.fixed.plan.items i ≡ Some w →
      IsKnown parts start s → item_of e ≡ i → Does parts s e t → t.failed ≡ false → AtStart i w s → AtStart i w t
  one_walk i w s t e at k is d sound h =
      subst (λ (f : Fixed). TurnAtState f i w t.state t.entered) k.fixed
      (subst (λ j. TurnAtState s.fixed j w t.state t.entered) is
      (event_walk s t e w (subst (λ (f : Fixed). slice_get f.plan.items (item_of e) ≡ Some w) (sym k.fixed)
      (subst (λ j. slice_get start.fixed.plan.items j ≡ Some w) (sym is) at)) k.valid sound d
      (subst (λ j. TurnAtState s.fixed j w s.state s.entered) (sym is)
      (subst (λ (f : Fixed). TurnAtState f i w s.state s.entered) (sym k.fixed) h))))

  run_walk : (i : ℕ) (w : Work) (es : List Move) (s t : FineState) → slice_get start.fixed.plan.items i ≡ Some w →
      IsKnown parts start s → AllByRecursion (λ e. item_of e ≡ i) es → Runs parts s es t → t.failed ≡ false →
      AtStart i w s → AtStart i w t
  run_walk i w [] s t at k own r sound h = subst (AtStart i w) r h
  run_walk i w (e ∷ es) s t at k own r sound h =
      run_walk i w es r.0 t at (known_next parts step_laws start is_start s e r.0 k r.1) own.1 r.2 sound
      (one_walk i w s r.0 e at k own.0 r.1 (runs_sound es r.0 t r.2 sound) h)

  first_blocks : (d : ℕ) → (start.state.memories.devices d).blocks ≡ tables_before start.fixed.plan 0 d
  first_blocks d =
      ap (λ (s : State). (s.memories.devices d).blocks) is_start.state
      ∙ ap (λ (f : ℕ → List Block). f d) (sym (from_none start.fixed.plan.items (λ d. [])))

  phase_at : (s : FineState) (i : ℕ) (w : Work) → IsKnown parts start s → slice_get start.fixed.plan.items i ≡ Some w →
      (p : Phase) → (board_of s.fixed.plan s.state).condition i ≡ p →
      (own_part w (whole_condition (s.state.condition i))).phase ≡ p
  phase_at s i w k at p h =
      ap (λ o. o.phase) (sym (own_at s.fixed.plan (as_whole s.state) i w
      (subst (λ (f : Fixed). slice_get f.plan.items i ≡ Some w) (sym k.fixed) at))) ∙ h

  module _ (i : ℕ) (t : FineState) (x : InOwnTurn parts start i t) (sound : t.failed ≡ false)
      (within : i < length start.fixed.plan.items) where
    sound_before : (n : ℕ) → n ≤ i → (x.after n).failed ≡ false
    sound_before n le = go (cases_lt n i)
      where
        go : (n < i) ⊎ (i ≤ n) → (x.after n).failed ≡ false
        go (inl lt) = (as_run start.fixed.plan n (x.after n) (x.after (n + 1)) (x.each n lt)).sound
        go (inr ge) =
            let e : i ≡ n = omega arith in subst (λ k. (x.after k).failed ≡ false) e
            (runs_sound x.so_far (x.after i) t x.run sound)

    -- an item that is not begun stands before the blocks of the walk
    stands_before : (n : ℕ) (w : Work) → slice_get start.fixed.plan.items n ≡ Some w → n ≤ i →
        ((d : ℕ) → ((x.after n).state.memories.devices d).blocks ≡ tables_before start.fixed.plan n d) →
        AtStart n w (x.after n)
    stands_before n w at le same =
        let here = reached parts step_laws start is_start i n t x le in
        record {
          own =
              untouched_before start.fixed.plan (start.fixed.fill n) n w ((x.after n).state.condition n)
              (own_memories start.fixed.plan n (x.after n).state).device.blocks ((x.after n).entered n)
              (phase_at (x.after n) n w here.known at untouched here.turn.item) (same (device_of start.fixed.plan n));
          others = λ e _. same e;
        }

    walked_before : (n : ℕ) → n ≤ i →
        (d : ℕ) → ((x.after n).state.memories.devices d).blocks ≡ tables_before start.fixed.plan n d
    walked_before zero le d = ap (λ (s : FineState). (s.state.memories.devices d).blocks) x.begins ∙ first_blocks d
    walked_before (suc n) le d = by (which start.fixed.plan n) (walked_before n (omega arith))
      where
        by : Which start.fixed.plan n →
            ((d : ℕ) → ((x.after n).state.memories.devices d).blocks ≡ tables_before start.fixed.plan n d) →
            ((x.after (suc n)).state.memories.devices d).blocks ≡ tables_before start.fixed.plan (suc n) d
        by (past _ ge) same = absurd (omega arith)
        by (item w at _) same =
            let lt : n < i = omega arith in
            let le' : n + 1 ≤ i = omega arith in
            let below : n < n + 1 = omega arith in
            let up : n + 1 ≡ suc n = omega arith in
            let here = reached parts step_laws start is_start i n t x (omega arith) in
            let there = reached parts step_laws start is_start i (n + 1) t x le' in
            let r = as_run start.fixed.plan n (x.after n) (x.after (n + 1)) (x.each n lt) in
            let stands = run_walk n w r.events (x.after n) (x.after (n + 1)) at here.known r.own r.run
            (sound_before (n + 1) le') (stands_before n w at (omega arith) same) in
            let closes =
            closed_after start.fixed.plan (start.fixed.fill n) n w ((x.after (n + 1)).state.condition n)
            (own_memories start.fixed.plan n (x.after (n + 1)).state).device.blocks ((x.after (n + 1)).entered n)
            (phase_at (x.after (n + 1)) n w there.known at closed (there.turn.before n below)) stands.own in
            subst (λ k. ((x.after k).state.memories.devices d).blocks ≡ tables_before start.fixed.plan (suc n) d) up
            (on w
            (subst
            (λ e. ((x.after (n + 1)).state.memories.devices e).blocks
            ≡ (acts_of w (tables_before start.fixed.plan n e)).blocks)
            (device_at start.fixed.plan n w at) closes)
            (λ e ne. stands.others e (λ q. ne (q ∙ device_at start.fixed.plan n w at))) (cases_eq d w.device)
            ∙ ap (λ (f : ℕ → List Block). f d) (sym (before_next start.fixed.plan n w at)))
          where
            on : (w : Work) →
                ((x.after (n + 1)).state.memories.devices w.device).blocks
                ≡ (acts_of w (tables_before start.fixed.plan n w.device)).blocks →
                ((e : ℕ) → (e ≡ w.device → ⊥) →
                ((x.after (n + 1)).state.memories.devices e).blocks ≡ tables_before start.fixed.plan n e) →
                (d ≡ w.device) ⊎ (d ≡ w.device → ⊥) →
                ((x.after (n + 1)).state.memories.devices d).blocks
                ≡ changed w.device (acts_of w (tables_before start.fixed.plan n w.device)).blocks
                (tables_before start.fixed.plan n) d
            on w closes others (inl e) =
                subst
                (λ k. ((x.after (n + 1)).state.memories.devices k).blocks
                ≡ changed w.device (acts_of w (tables_before start.fixed.plan n w.device)).blocks
                (tables_before start.fixed.plan n) k)
                (sym e)
                (closes ∙ sym (changed_same w.device (acts_of w (tables_before start.fixed.plan n w.device)).blocks
                (tables_before start.fixed.plan n)))
            on w closes others (inr ne) =
                others d ne
                ∙ sym (changed_other w.device d (acts_of w (tables_before start.fixed.plan n w.device)).blocks
                (tables_before start.fixed.plan n) (ne_eqb d w.device ne))

    -- how the item stands in its turn
    pub turn_walk : (w : Work) → slice_get start.fixed.plan.items i ≡ Some w →
        TurnAtState start.fixed i w t.state t.entered
    turn_walk w at =
        let here = reached parts step_laws start is_start i i t x (omega arith) in
        run_walk i w x.so_far (x.after i) t at here.known x.own x.run sound
        (stands_before i w at (omega arith) (walked_before i (omega arith)))

-- before its opening an item has the blocks of the walk, and has entered nothing
pub waiting_at : (start : FineState) → IsStart start → (i : ℕ) (t : FineState) → InOwnTurn parts start i t → IsValid t →
    {t' : FineState} → Does parts t (Open i) t' → i < length start.fixed.plan.items → (w : Work) →
    slice_get start.fixed.plan.items i ≡ Some w →
    ((own_memories start.fixed.plan i t.state).device.blocks ≡ blocks_before start.fixed.plan i) × (t.entered i ≡ [])
waiting_at start is_start i t x valid d within w at = (
  waiting_before start.fixed.plan (start.fixed.fill i) i w w.deferred
      (t.state.condition i) (own_memories start.fixed.plan i t.state).device.blocks (t.entered i) waits
      (turn_walk start is_start i t x d.enabled.sound within w at).own,
  none_waiting t valid i w.deferred waits,
)
  where
    fixed : t.fixed ≡ start.fixed
    fixed = (turn_known parts step_laws start is_start i t x).fixed

    at_t : slice_get t.fixed.plan.items i ≡ Some w
    at_t = subst (λ (f : Fixed). slice_get f.plan.items i ≡ Some w) (sym fixed) at

    test : not (two.is_wait w.kind) && ((w.deferred || (t.state.place == i)) && (two.is_waiting w.deferred
        (whole_condition (t.state.condition i)) && two.is_ready t.fixed.plan (as_whole t.state) i)) ≡ true
    test =
        sym (at_item t.fixed.plan i w at_t false
        (λ w. not (two.is_wait w.kind) && ((w.deferred || (t.state.place == i)) && (two.is_waiting w.deferred
        (whole_condition (t.state.condition i)) && two.is_ready t.fixed.plan (as_whole t.state) i))))
        ∙ d.enabled.enabled

    waits : two.is_waiting w.deferred (whole_condition (t.state.condition i)) ≡ true
    waits =
        (and_parts (two.is_waiting w.deferred (whole_condition (t.state.condition i))) _
        (and_parts (w.deferred || (t.state.place == i)) _ (and_parts (not (two.is_wait w.kind)) _ test).1).1).0
