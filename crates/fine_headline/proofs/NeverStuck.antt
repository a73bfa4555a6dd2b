-- A run of the fine-grained machine that has not ended can go on.
use Rattle.base.specs.declared.item.Event.{Event}
use Rattle.base.specs.declared.item.Event.TheVariants.{Gen, Open, Step, Close, Wait, End}
use Rattle.base.specs.declared.item.Event.TheVariants as event
use Rattle.std.proofs.Common.{◌≡◌, ℕ, ◌+◌, ◌<◌, ◌==◌, Bool, true, false, List, [], ◌∷◌, length, Option, Some, None, refl, sym, ap, ◌∙◌, subst, arith}
use Rattle.std.specs.Prelude.{not, ◌&&◌, ◌||◌, slice_get, if◌then◌else◌, option_map, IsTrue}
use Rattle.std.proofs.lemmas.Bool.{false≢true, true≢false, and_parts, eqb-true}
use Rattle.std.proofs.lemmas.Option.{same_Some, slice_get_within}
use Rattle.base.specs.declared.tree.Program.{Program}
use Rattle.base.specs.declared.item.ItemKind.{ItemKind}
use Rattle.base.specs.declared.item.ItemKind.TheVariants as kind
use Rattle.base.specs.Meaning.{Run as Region_run, lengths_of}
use Rattle.base.specs.Items.{Work, Plan, plan}
use Rattle.base.specs.Map.{Memories, Fill}
use Rattle.base.specs.Machine.{Condition as Whole_condition, on_item, deferred_closed}
use Rattle.base.specs.Machine as two
use Rattle.base.specs.Machine.Condition.{Generated as generated, Opened as opened, Closed as closed, Passed as passed}
use Rattle.fine_headline.proofs.FineSpots.{own_memories}
use Rattle.fine_machine.specs.Left.{Left, Asks, Finished, Answer, item_left}
use Rattle.fine_machine.specs.Action.{act}
use Rattle.fine_machine.specs.Machine.{State, Condition, Untouched, Generated, Opened, Closed, Passed, as_whole, whole_condition, device_of, with_condition, with_memories, moves_on, has_step, is_finished, enabled, step, begun, open_item, step_item, close_item, host_done, Run, RunFrom, HasEnded, start}
use Rattle.two_memories.proofs.PlanItems.{at_item, on_true}
use Rattle.headline.proofs.PlainWorks.{Sensible, list_sensible}
use Rattle.headline.proofs.SoundConditions.{ItemOk, Sound, is_untouched, is_done, build_same, build_next, advance, done_ok, passed_ok, start_sound}
use Rattle.headline.proofs.NeverStuck.{next_of, sensible_at}

whole_if : (b : Bool) (c d : Condition) →
    whole_condition (if b then c else d) ≡ (if b then whole_condition c else whole_condition d)
whole_if true c d = refl
whole_if false c d = refl

differ : {A : Type 0} (b : Bool) → b ≡ true → b ≡ false → A
differ b h k = absurd (true≢false (sym h ∙ k))

module _ (pl : Plan) (fill : ℕ → Fill) (order : ℕ → List ℕ) (sensible : (j : ℕ) (w : Work) → slice_get pl.items j ≡ Some w → Sensible w)
  where
    abbrev Fair : State → Type 0
    Fair s = Sound pl fill sensible (as_whole s)

    -- an item's condition alone changes
    same_place : (s : State) → Fair s → (i : ℕ) (c : Condition) (t : State) → t.place ≡ s.place →
        ((j : ℕ) → t.condition j ≡ (if j == i then c else s.condition j)) →
        ((w : Work) → slice_get pl.items i ≡ Some w → ItemOk w.deferred i s.place (whole_condition c)) → Fair t
    same_place s ok i c t at conditions own =
        build_same pl fill sensible (as_whole s) ok i (whole_condition c) (as_whole t) at
        (λ j. ap whole_condition (conditions j) ∙ whole_if (j == i) c (s.condition j)) own

    next_place : (s : State) → Fair s → (i : ℕ) (c : Condition) (t : State) → i ≡ s.place → i < length pl.items →
        t.place ≡ s.place + 1 → ((j : ℕ) → t.condition j ≡ (if j == i then c else s.condition j)) →
        ((w : Work) → slice_get pl.items i ≡ Some w → ItemOk w.deferred i (s.place + 1) (whole_condition c)) → Fair t
    next_place s ok i c t here within at conditions own =
        build_next pl fill sensible (as_whole s) ok i (whole_condition c) (as_whole t) here within at
        (λ j. ap whole_condition (conditions j) ∙ whole_if (j == i) c (s.condition j)) own

    gen_fair : (s : State) → Fair s → (i : ℕ) → enabled pl s (Gen i) ≡ true →
        Fair (moves_on false (with_condition i (Generated s.scalars) s))
    gen_fair s ok i en =
        let p = and_parts (s.place == i) _ en in
        let here : i ≡ s.place = sym (eqb-true s.place i p.0) in
        let f = on_true pl i (λ w. w.deferred) p.1 in
        next_place s ok i (Generated s.scalars) (moves_on false (with_condition i (Generated s.scalars) s)) here
        (slice_get_within pl.items i f.0 f.1) refl (λ j. refl)
        (λ w e. let d : w.deferred ≡ true = ap (λ (v : Work). v.deferred) (same_Some w f.0 (sym e ∙ f.1)) ∙ f.2 in
        record {
          behind = λ g lt. differ w.deferred d g;
          at = λ g k. differ w.deferred d g;
          beyond =
              λ g lt. differ w.deferred d g;
          begun = λ g lt. refl;
        })

    wait_fair : (s : State) → Fair s → (i : ℕ) → enabled pl s (Wait i) ≡ true →
        Fair (moves_on false (with_condition i Passed s))
    wait_fair s ok i en =
        let p = and_parts (s.place == i) _ en in
        let here : i ≡ s.place = sym (eqb-true s.place i p.0) in
        let q = and_parts (on_item pl i false (λ w. two.is_wait w.kind)) (two.is_ready pl (as_whole s) i) p.1 in
        let f = on_true pl i (λ w. two.is_wait w.kind) q.0 in
        next_place s ok i Passed (moves_on false (with_condition i Passed s)) here
        (slice_get_within pl.items i f.0 f.1) refl (λ j. refl)
        (λ w e. passed_ok pl fill sensible w.deferred i s.place
        (ap (λ (v : Work). v.deferred) (same_Some w f.0 (sym e ∙ f.1)) ∙ (sensible i f.0 f.1).waits f.2) here)

    end_fair : (s : State) → Fair s → enabled pl s End ≡ true → Fair (moves_on false s)
    end_fair s ok en =
        let p = and_parts (s.place == length pl.items) (deferred_closed pl (as_whole s)) en in
        let at = eqb-true s.place (length pl.items) p.0 in
        record {
          top = omega arith;
          items = λ j w e. let l =
              slice_get_within pl.items j w e in advance pl fill sensible w.deferred j s.place (whole_condition (s.condition j))
              (ok.items j w e) (λ k. before j (length pl.items) s.place l at k);
        }
      where
        before : (j n place : ℕ) → j < n → place ≡ n → j ≡ place → ⊥
        before j n place l at k = omega arith

    other : (d b : Bool) → (d || b) ≡ true → d ≡ false → b ≡ true
    other true b h e = absurd (true≢false e)
    other false b h e = h

    abbrev opens : State → ℕ → Work → Bool
    opens s i w =
        not (two.is_wait w.kind) && ((w.deferred || (s.place == i)) && (two.is_waiting w.deferred
        (whole_condition (s.condition i)) && two.is_ready pl (as_whole s) i))

    open_fair : (s : State) → Fair s → (i : ℕ) (left : Left) → enabled pl s (Open i) ≡ true →
        Fair (with_condition i (Opened left) s)
    open_fair s ok i left en =
        let f = on_true pl i (opens s i) en in
        let may = (and_parts (f.0.deferred || (s.place == i)) _ (and_parts (not (two.is_wait f.0.kind)) _ f.2).1).0 in
        same_place s ok i (Opened left) (with_condition i (Opened left) s) refl (λ j. refl)
        (λ v g. let same : v ≡ f.0 = same_Some v f.0 (sym g ∙ f.1) in
        let here : v.deferred ≡ false → s.place ≡ i =
        (λ d. eqb-true s.place i (other f.0.deferred (s.place == i) may
        (sym (ap (λ (x : Work). x.deferred) same) ∙ d))) in
        record {
          behind = λ d lt. absurd (let k = here d in omega arith);
          at = λ d k. refl;
          beyond = λ d lt. absurd
              (let k = here d in omega arith);
          begun = λ d lt. refl;
        })

    -- an open item's next action
    step_fair : (s : State) → Fair s → (i : ℕ) (left before : Left) (m : Memories) → s.condition i ≡ Opened before →
        Fair (with_condition i (Opened left) (with_memories (device_of pl i) m s))
    step_fair s ok i left before m is =
        same_place s ok i (Opened left) (with_condition i (Opened left) (with_memories (device_of pl i) m s)) refl (λ j. refl)
        (λ w e. subst (ItemOk w.deferred i s.place) (ap whole_condition is) (ok.items i w e))

    open_of : (c : Condition) → is_finished c ≡ true →
        (is_done (whole_condition c) ≡ true → ⊥) × (is_untouched (whole_condition c) ≡ true → ⊥)
    open_of (Opened left) h = (λ k. false≢true k, λ k. false≢true k)
    open_of Untouched h = absurd (false≢true h)
    open_of (Generated a) h = absurd (false≢true h)
    open_of Closed h = absurd (false≢true h)
    open_of Passed h = absurd (false≢true h)

    squeeze : (a b : ℕ) → (a < b → ⊥) → (b < a → ⊥) → a ≡ b
    squeeze a b h k = omega arith

    close_fair : (s : State) → Fair s → (i : ℕ) (w : Work) (u : State) → slice_get pl.items i ≡ Some w →
        is_finished (s.condition i) ≡ true → u.place ≡ s.place → u.condition ≡ s.condition →
        Fair (moves_on w.deferred (with_condition i Closed u))
    close_fair s ok i w u e fin place condition = go w.deferred refl
      where
        conditions : (j : ℕ) → (if j == i then Closed else u.condition j) ≡ (if j == i then Closed else s.condition j)
        conditions j = ap (λ (g : ℕ → Condition). if j == i then Closed else g j) condition

        own : w.deferred ≡ true → (v : Work) → slice_get pl.items i ≡ Some v → ItemOk v.deferred i s.place closed
        own d v g =
            let k : v.deferred ≡ true = ap (λ (x : Work). x.deferred) (same_Some v w (sym g ∙ e)) ∙ d in
            record {
              behind = λ n lt. refl;
              at = λ n j. differ v.deferred k n;
              beyond = λ n lt. differ v.deferred k n;
              begun = λ n lt. refl;
            }

        go : (b : Bool) → w.deferred ≡ b → Fair (moves_on b (with_condition i Closed u))
        go true d = same_place s ok i Closed (with_condition i Closed u) place conditions (own d)
        go false d =
            let mine = ok.items i w e in
            let x = open_of (s.condition i) fin in
            let here : i ≡ s.place = squeeze i s.place (λ lt. x.0 (mine.behind d lt)) (λ lt. x.1 (mine.beyond d lt)) in
            next_place s ok i Closed (moves_on false (with_condition i Closed u)) here (slice_get_within pl.items i w e)
            (ap (λ n. n + 1) place) conditions (λ v g. done_ok pl fill sensible v.deferred i s.place here)

    done_place : (k : ItemKind) (t : Region_run) (s : State) →
        ((host_done k t s).place ≡ s.place) × ((host_done k t s).condition ≡ s.condition)
    done_place kind.Host t s = (refl, refl)
    done_place kind.Target t s = (refl, refl)
    done_place kind.Begin t s = (refl, refl)
    done_place kind.End t s = (refl, refl)
    done_place kind.Enter t s = (refl, refl)
    done_place kind.Exit t s = (refl, refl)
    done_place kind.Update t s = (refl, refl)
    done_place kind.Wait t s = (refl, refl)

    -- what each event leaves
    step_keeps : (s : State) → Fair s → (e : Event) → enabled pl s e ≡ true → (t : State) → step pl fill order s e ≡ Some t →
        Fair t
    step_keeps s ok (Gen i) en t is =
        subst Fair (same_Some (moves_on false (with_condition i (Generated s.scalars) s)) t is) (gen_fair s ok i en)
    step_keeps s ok (Wait i) en t is =
        subst Fair (same_Some (moves_on false (with_condition i Passed s)) t is) (wait_fair s ok i en)
    step_keeps s ok End en t is = subst Fair (same_Some (moves_on false s) t is) (end_fair s ok en)
    step_keeps s ok (Open i) en t is =
        let f = on_true pl i (opens s i) en in
        go (item_left (order i) f.0 (s.memories.devices f.0.device).blocks (begun f.0 (s.condition i) s))
        (sym (at_item pl i f.0 f.1 None (λ w. open_item (order i) i w s)) ∙ is)
      where
        go : (o : Option Left) → option_map (λ left. with_condition i (Opened left) s) o ≡ Some t → Fair t
        go None h = absurd (cc h)
        go (Some left) h = subst Fair (same_Some (with_condition i (Opened left) s) t h) (open_fair s ok i left en)
    step_keeps s ok (Step i) en t is = go (s.condition i) refl is
      where
        by : (r : _) (k : Answer → Left) → s.condition i ≡ Opened (Asks r k) → (o : Option (Answer × Memories)) →
            option_map (λ p. with_condition i (Opened (k p.0)) (with_memories (device_of pl i) p.1 s)) o ≡ Some t → Fair t
        by r k c None h = absurd (cc h)
        by r k c (Some p) h =
            subst Fair (same_Some (with_condition i (Opened (k p.0)) (with_memories (device_of pl i) p.1 s)) t h)
            (step_fair s ok i (k p.0) (Asks r k) p.1 c)

        go : (c : Condition) → s.condition i ≡ c → step_item pl (fill i) i c s ≡ Some t → Fair t
        go (Opened (Asks r k)) e h = by r k e (act pl.lengths (fill i) r (own_memories pl i s)) h
        go (Opened (Finished x)) e h = absurd (cc h)
        go Untouched e h = absurd (cc h)
        go (Generated a) e h = absurd (cc h)
        go Closed e h = absurd (cc h)
        go Passed e h = absurd (cc h)
    step_keeps s ok (Close i) en t is =
        let f = on_true pl i (λ w. is_finished (s.condition i)) en in
        go f.0 f.1 f.2 (s.condition i) refl (sym (at_item pl i f.0 f.1 None (λ w. close_item i w (s.condition i) s)) ∙ is)
      where
        go : (w : Work) → slice_get pl.items i ≡ Some w → is_finished (s.condition i) ≡ true → (c : Condition) →
            s.condition i ≡ c → close_item i w c s ≡ Some t → Fair t
        go w e fin (Opened (Finished x)) c h =
            let d = done_place w.kind x s in
            subst Fair (same_Some (moves_on w.deferred (with_condition i Closed (host_done w.kind x s))) t h)
            (close_fair s ok i w (host_done w.kind x s) e fin d.0 d.1)
        go w e fin (Opened (Asks r k)) c h = absurd (cc h)
        go w e fin Untouched c h = absurd (cc h)
        go w e fin (Generated a) c h = absurd (cc h)
        go w e fin Closed c h = absurd (cc h)
        go w e fin Passed c h = absurd (cc h)

    run_keeps : (events : List Event) (o : Option State) (t : State) → ((s : State) → o ≡ Some s → Fair s) →
        Run pl fill order o events (Some t) → Fair t
    run_keeps [] o t h r = h t (sym r)
    run_keeps (e ∷ rest) None t h r = absurd r
    run_keeps (e ∷ rest) (Some s) t h r =
        run_keeps rest (step pl fill order s e) t (λ u k. step_keeps s (h s refl) e r.0 u k) r.1

    -- an open item has a step, or can be closed
    open_next : (s : State) (i : ℕ) → on_item pl i false (λ w. two.is_open (whole_condition (s.condition i))) ≡ true →
        (e : Event) × (enabled pl s e ≡ true)
    open_next s i h =
        let r = on_true pl i (λ w. two.is_open (whole_condition (s.condition i))) h in
        go r.0 r.1 (s.condition i) refl r.2
      where
        go : (w : Work) → slice_get pl.items i ≡ Some w → (c : Condition) → s.condition i ≡ c →
            two.is_open (whole_condition c) ≡ true → (e : Event) × (enabled pl s e ≡ true)
        go w at (Opened (Asks r k)) e h =
            (Step i, at_item pl i w at false (λ w. has_step (s.condition i)) ∙ ap has_step e)
        go w at (Opened (Finished t)) e h =
            (Close i, at_item pl i w at false (λ w. is_finished (s.condition i)) ∙ ap is_finished e)
        go w at Untouched e h = absurd (false≢true h)
        go w at (Generated a) e h = absurd (false≢true h)
        go w at Closed e h = absurd (false≢true h)
        go w at Passed e h = absurd (false≢true h)

    next_event : (s : State) (e : Event) → two.enabled pl (as_whole s) e ≡ true →
        (f : Event) × (enabled pl s f ≡ true)
    next_event s (event.Gen i) h = (Gen i, h)
    next_event s (event.Open i) h = (Open i, h)
    next_event s (event.Step i) h = absurd (false≢true h)
    next_event s (event.Close i) h = open_next s i h
    next_event s (event.Wait i) h = (Wait i, h)
    next_event s event.End h = (End, h)

    pub goes_on : (input : List ℕ) (events : List Event) (s : State) → RunFrom pl fill order input events (Some s) →
        (HasEnded pl s → ⊥) → (e : Event) × (enabled pl s e ≡ true)
    goes_on input events s r going =
        let ok = run_keeps events (Some (start input)) s
        (λ u k. subst Fair (same_Some (start input) u k) (start_sound pl fill sensible input)) r in
        let n = next_of pl fill sensible (as_whole s) ok going in
        next_event s n.0 n.1

pub a_run_goes_on : (p : Program) (input : List ℕ) (fill : ℕ → Fill) (order : ℕ → List ℕ) (events : List Event) (s : State) →
    RunFrom (plan p) fill order input events (Some s) → (HasEnded (plan p) s → ⊥) →
    (e : Event) × IsTrue (enabled (plan p) s e)
a_run_goes_on p input fill order events s r going =
    goes_on (plan p) fill order (sensible_at (plan p).items (list_sensible (lengths_of p) p.body.items)) input events s r
    going
