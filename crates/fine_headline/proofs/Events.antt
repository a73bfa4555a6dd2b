-- The laws hold where an item is generated, opened, closed or passed, in order.
use Rattle.base.specs.declared.item.Event.TheVariants as event
use Rattle.std.proofs.Common.{◌≡◌, ◌⊎◌, ℕ, ◌==◌, Bool, true, false, List, length, Option, Some, None, refl, sym, ◌∙◌, ap, inl, inr, subst}
use Rattle.std.specs.Prelude.{not, ◌&&◌, ◌||◌, slice_get, if◌then◌else◌, option_map}
use Rattle.std.proofs.lemmas.Bool.{false≢true, cases_eq, eq-eqb, ne_eqb, and_parts}
use Rattle.base.specs.declared.item.MapItem.{MapItem}
use Rattle.base.specs.declared.item.ItemKind.TheVariants as kind
use Rattle.base.specs.Meaning.{Run}
use Rattle.base.specs.Items.{Work}
use Rattle.base.specs.Machine.{on_item}
use Rattle.base.specs.Machine as two
use Rattle.fine_machine.specs.Left.{Left, Asks, Finished, item_left, present_of}
use Rattle.fine_machine.specs.Machine.{State, Condition, Untouched, Generated, Opened, Closed, Passed, as_whole, whole_condition, with_condition, moves_on, is_finished, begun, open_item, close_item}
use Rattle.machine.specs.Board.{Move, item_of, Moves}
use Rattle.machine.specs.Board.Move.{Gen, Open, Close, Wait}
use Rattle.machine.specs.Machine.{Does, InOrder}
use Rattle.two_memories.specs.Two.{items_of, AllLawful}
use Rattle.two_memories.proofs.PlanItems.{at_item, on_true}
use Rattle.fine_headline.specs.FineState.{FineState, Own, board_of, result_of, next, next_move, parts}
use Rattle.fine_headline.proofs.StepLaws.{step_laws}
use Rattle.fine_headline.proofs.Quietly.{at_start, Lawful_at, IsQuiet, quiet_lawful, gen_quiet, wait_quiet, end_quiet, close_quiet, closed_by, open_quiet, left_same, begun_same}

module _ (start : FineState) (a a' : State) (b b' : Bool) (m m' : ℕ → List MapItem) (s' t' : FineState) where
  abbrev s : FineState
  s = at_start start a b m

  abbrev t : FineState
  t = at_start start a' b' m'

  abbrev InOrderAt : Move → Type 0
  InOrderAt e = InOrder parts start e (at_start start a b m) (at_start start a' b' m')

  abbrev LawfulAt : Move → Type 0
  LawfulAt e = Lawful_at start (at_start start a b m) (at_start start a' b' m') s' t' e

  moves_of : (e : Move) (u y : FineState) → parts.valid u → Does parts u e y →
      (x : State) (c : Bool) (n : ℕ → List MapItem) → u.fixed ≡ start.fixed → y ≡ at_start start x c n →
      Moves (items_of u.fixed.plan) (board_of u.fixed.plan u.state) e (board_of start.fixed.plan x)
  moves_of e u y v d x c n f is =
      subst (λ (z : FineState). Moves (items_of u.fixed.plan) (board_of u.fixed.plan u.state) e
      (board_of z.fixed.plan z.state)) is (step_laws.moves u e y v d)

  from_quiet : (e : Move) (x x' : State) → InOrderAt e → Does parts (at_start start a b m) e s' →
      Does parts (at_start start a' b' m') e t' →
      next_move (at_start start a b m) e ≡ at_start start x b m → next_move
      (at_start start a' b' m') e ≡ at_start start x' b' m' → IsQuiet start.fixed.plan e a a' x x' → LawfulAt e
  from_quiet e x x' o d d' is is' q =
      let p : s' ≡ at_start start x b m = d.step ∙ is in
      let p' : t' ≡ at_start start x' b' m' = d'.step ∙ is' in
      subst (λ y. Lawful_at start (at_start start a b m) (at_start start a' b' m') y t' e) (sym p)
      (subst (λ z. Lawful_at start (at_start start a b m) (at_start start a' b' m') (at_start start x b m) z e) (sym p')
      (quiet_lawful start a a' b b' m m' e x x' o (moves_of e (at_start start a b m) s' o.valid d x b m refl p)
      (moves_of e (at_start start a' b' m') t' o.turn_valid d' x' b' m' refl p') q))

  pub gen_lawful : (i : ℕ) → InOrderAt (Gen i) → Does parts (at_start start a b m) (Gen i) s' →
      Does parts (at_start start a' b' m') (Gen i) t' → LawfulAt (Gen i)
  gen_lawful i o d d' =
      from_quiet (Gen i) (moves_on false (with_condition i (Generated a.scalars) a))
      (moves_on false (with_condition i (Generated a'.scalars) a')) o d d' refl refl
      (gen_quiet start.fixed.plan i a a' (o.alike.host refl))

  pub wait_lawful : (i : ℕ) → InOrderAt (Wait i) → Does parts (at_start start a b m) (Wait i) s' →
      Does parts (at_start start a' b' m') (Wait i) t' → LawfulAt (Wait i)
  wait_lawful i o d d' = go (cases_eq i (length start.fixed.plan.items))
    where
      go : (i ≡ length start.fixed.plan.items) ⊎ (i ≡ length start.fixed.plan.items → ⊥) → LawfulAt (Wait i)
      go (inl e) =
          let is : (i == length start.fixed.plan.items) ≡ true = eq-eqb i (length start.fixed.plan.items) e in
          from_quiet (Wait i) (moves_on false a) (moves_on false a') o d d'
          (ap (λ c. next (at_start start a b m) (if c then event.End else event.Wait i)) is)
          (ap (λ c. next (at_start start a' b' m') (if c then event.End else event.Wait i)) is)
          (end_quiet start.fixed.plan i a a' (o.alike.host refl) (ap (λ (x : Own). x.condition) o.alike.own))
      go (inr n) =
          let is : (i == length start.fixed.plan.items) ≡ false = ne_eqb i (length start.fixed.plan.items) n in
          from_quiet (Wait i) (moves_on false (with_condition i Passed a))
          (moves_on false (with_condition i Passed a')) o d d'
          (ap (λ c. next (at_start start a b m) (if c then event.End else event.Wait i)) is)
          (ap (λ c. next (at_start start a' b' m') (if c then event.End else event.Wait i)) is)
          (wait_quiet start.fixed.plan i a a' (o.alike.host refl))

  -- an item's condition is the same in both states
  same_condition : (e : Move) (w : Work) → slice_get start.fixed.plan.items (item_of e) ≡ Some w → InOrderAt e →
      a.condition (item_of e) ≡ a'.condition (item_of e)
  same_condition e w at o =
      sym (at_item start.fixed.plan (item_of e) w at Untouched (λ w. a.condition (item_of e)))
      ∙ (ap (λ (x : Own). x.condition) o.alike.own ∙ at_item start.fixed.plan (item_of e) w at Untouched
      (λ w. a'.condition (item_of e)))

  pub close_lawful : (i : ℕ) → AllLawful start.fixed.plan → InOrderAt (Close i) →
      Does parts (at_start start a b m) (Close i) s' → Does parts (at_start start a' b' m') (Close i) t' →
      LawfulAt (Close i)
  close_lawful i lawful o d d' = by (on_true start.fixed.plan i (λ w. is_finished (a.condition i)) d.enabled.enabled)
    where
      by : (w : Work) × (slice_get start.fixed.plan.items i ≡ Some w) × (is_finished (a.condition i) ≡ true) →
          LawfulAt (Close i)
      by r = go (a.condition i) refl r.2
        where
          closes : (u : State) (c : Bool) (n : ℕ → List MapItem) (q : Run) → u.condition i ≡ Opened (Finished q) →
              next_move (at_start start u c n) (Close i) ≡ at_start start (closed_by i r.0 q u) c n
          closes u c n q e =
              ap (result_of (at_start start u c n) (event.Close i))
              (at_item start.fixed.plan i r.0 r.1 None (λ w. close_item i w (u.condition i) u) ∙ ap
              (λ x. close_item i r.0 x u) e)

          go : (c : Condition) → a.condition i ≡ c → is_finished c ≡ true → LawfulAt (Close i)
          go (Opened (Finished q)) e h =
              from_quiet (Close i) (closed_by i r.0 q a) (closed_by i r.0 q a') o d d' (closes a b m q e)
              (closes a' b' m' q (sym (same_condition (Close i) r.0 r.1 o) ∙ e))
              (close_quiet start.fixed.plan i r.0 q a a' r.1 (lawful i r.0 r.1) o.alike.host)
          go (Opened (Asks x k)) e h = absurd (false≢true h)
          go Untouched e h = absurd (false≢true h)
          go (Generated captured) e h = absurd (false≢true h)
          go Closed e h = absurd (false≢true h)
          go Passed e h = absurd (false≢true h)

  abbrev opens : ℕ → Work → Bool
  opens i w =
      not (two.is_wait w.kind) && ((w.deferred || (a.place == i)) && (two.is_waiting w.deferred
      (whole_condition (a.condition i)) && two.is_ready start.fixed.plan (as_whole a) i))

  -- where both states find the same sections of an update
  pub open_lawful : (i : ℕ) → AllLawful start.fixed.plan → InOrderAt (Open i) →
      Does parts (at_start start a b m) (Open i) s' → Does parts (at_start start a' b' m') (Open i) t' →
      t'.failed ≡ false →
      ((w : Work) → slice_get start.fixed.plan.items i ≡ Some w → w.kind ≡ kind.Update → present_of
      (a.memories.devices w.device).blocks w.maps ≡ present_of (a'.memories.devices w.device).blocks w.maps) →
      LawfulAt (Open i)
  open_lawful i lawful o d d' sound present = by (on_true start.fixed.plan i (opens i) d.enabled.enabled)
    where
      by : (w : Work) × (slice_get start.fixed.plan.items i ≡ Some w) × (opens i w ≡ true) → LawfulAt (Open i)
      by r = go (item_left (start.fixed.order i) w (a.memories.devices w.device).blocks (begun w (a.condition i) a)) refl
        where
          w : Work
          w = r.0

          waits : two.is_waiting w.deferred (whole_condition (a.condition i)) ≡ true
          waits =
              (and_parts (two.is_waiting w.deferred (whole_condition (a.condition i))) _
              (and_parts (w.deferred || (a.place == i)) _ (and_parts (not (two.is_wait w.kind)) _ r.2).1).1).0

          same : item_left (start.fixed.order i) w (a.memories.devices w.device).blocks
              (begun w (a.condition i) a) ≡ item_left (start.fixed.order i) w (a'.memories.devices w.device).blocks (begun w (a'.condition i) a')
          same =
              left_same (start.fixed.order i) w (a.memories.devices w.device).blocks (a'.memories.devices w.device).blocks (begun w (a.condition i) a) (present w r.1)
              ∙ ap (item_left (start.fixed.order i) w (a'.memories.devices w.device).blocks)
              (begun_same w (a.condition i) a a' (lawful i w r.1) waits
              (λ n. o.alike.host (ap not (at_item start.fixed.plan i w r.1 false (λ w. w.deferred) ∙ n))) ∙ ap
              (λ c. begun w c a') (same_condition (Open i) w r.1 o))

          opened : (u : State) (c : Bool) (n : ℕ → List MapItem) (x : Option Left) →
              item_left (start.fixed.order i) w (u.memories.devices w.device).blocks (begun w (u.condition i) u) ≡ x →
              next_move (at_start start u c n) (Open i) ≡ result_of (at_start start u c n) (event.Open i)
              (option_map (λ left. with_condition i (Opened left) u) x)
          opened u c n x e =
              ap (result_of (at_start start u c n) (event.Open i))
              (at_item start.fixed.plan i w r.1 None (λ w. open_item (start.fixed.order i) i w u) ∙ ap
              (option_map (λ left. with_condition i (Opened left) u)) e)

          go : (x : Option Left) → item_left (start.fixed.order i) w (a.memories.devices w.device).blocks (begun w (a.condition i) a) ≡ x →
              LawfulAt (Open i)
          go None e =
              absurd (false≢true (sym sound ∙ ap (λ (y : FineState). y.failed)
              (d'.step ∙ opened a' b' m' None (sym same ∙ e))))
          go (Some left) e =
              from_quiet (Open i) (with_condition i (Opened left) a) (with_condition i (Opened left) a') o d d'
              (opened a b m (Some left) e) (opened a' b' m' (Some left) (sym same ∙ e))
              (open_quiet start.fixed.plan i left a a' o.alike.host)
