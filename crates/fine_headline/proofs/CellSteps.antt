-- The laws hold at an action on a single cell that is among its item's accesses.
use Rattle.base.specs.declared.item.Event.TheVariants as event
use Rattle.std.proofs.Common.{◌≡◌, ◌⊎◌, ℕ, ◌==◌, Bool, true, false, List, Option, Some, None, refl, sym, ◌∙◌, ap, ap₂, inl, inr, subst}
use Rattle.std.specs.Prelude.{option_map}
use mathlib.Core.Path.{fun_ext}
use Rattle.std.proofs.lemmas.Bool.{false≢true, cases_eq, eq-eqb, ne_eqb, cond-true, cond-false}
use Rattle.base.specs.declared.item.Cell.{Cell}
use Rattle.base.specs.Actions.{Side, Host, Dev, Tab}
use Rattle.base.specs.declared.item.MapItem.{MapItem}
use Rattle.base.specs.Items.{Plan}
use Rattle.base.specs.Map.{Memories}
use Rattle.base.specs.Machine.{on_item}
use Rattle.base.specs.Blocks.{holder}
use Rattle.fine_machine.specs.Left.{Left, Asks, Request, Load, Store, Combine, Enter, Leave, Remove, CopyIn, CopyOut, Answer}
use Rattle.fine_machine.specs.Action.{act}
use Rattle.fine_machine.specs.Machine.{State, Condition, Untouched, Opened, has_step, with_condition, with_memories, step_item}
use Rattle.machine.specs.Board.{touches, Moves}
use Rattle.machine.specs.Board.Move.{Step}
use Rattle.machine.specs.Machine.{Does, InOrder}
use Rattle.two_memories.specs.Two.{Holding, Number, Entry, Spot, device_of, items_of, less}
use Rattle.two_memories.proofs.LikeMemories.{touched}
use Rattle.two_memories.proofs.AdjustedCounts.{access_of}
use Rattle.two_memories.proofs.Spots.{spot_on, touched_at}
use Rattle.fine_headline.proofs.FineSpots.{own_memories, value_of, value_is, value_put, touched_values, unwritten_values, else_put}
use Rattle.two_memories.proofs.PlanItems.{at_item, on_true}
use Rattle.fine_headline.specs.FineState.{FineState, Own, board_of, own_of, value_at, resting_in, entered_by, entered_after, is_resting, result_of, next_move, parts}
use Rattle.fine_headline.proofs.StepLaws.{step_laws}
use Rattle.fine_headline.proofs.Quietly.{at_start, Lawful_at}
use Rattle.fine_headline.proofs.Cells.{IsAllowed, BothAct, both_act}

-- an action on a cell enters and leaves nothing
entered_same : (resting : MapItem → Bool) (r : Request) (k : Answer → Left) (ms : List MapItem) (plan : Plan) (i : ℕ) →
    IsAllowed plan i r → entered_by resting (Opened (Asks r k)) ms ≡ ms
entered_same resting (Load side c) k ms plan i h = refl
entered_same resting (Store side c n) k ms plan i h = refl
entered_same resting (Combine side op c n) k ms plan i h = refl
entered_same resting (CopyIn c) k ms plan i h = refl
entered_same resting (CopyOut c) k ms plan i h = refl
entered_same resting (Remove section) k ms plan i h = refl
entered_same resting (Enter item) k ms plan i h = absurd h
entered_same resting (Leave item) k ms plan i h = absurd h

module _ (start : FineState) (a a' : State) (b b' : Bool) (m m' : ℕ → List MapItem) (s' t' : FineState) (i : ℕ) where
  same_host : ((l : Spot) → touches (items_of start.fixed.plan) i l ≡ true → value_at start.fixed.plan a m l ≡ value_at
      start.fixed.plan a' m' l) → (c : Cell) → touched (access_of start.fixed.plan i) Host c ≡ true →
      a.memories.host c ≡ a'.memories.host c
  same_host h c k = go (h (spot_on start.fixed.plan i Host c) (touched_at start.fixed.plan i Host c k))
    where
      go : ◌≡◌ {A = Holding} (Number (Some (a.memories.host c))) (Number (Some (a'.memories.host c))) →
          a.memories.host c ≡ a'.memories.host c
      go e = cc e

  same_device : ((l : Spot) → touches (items_of start.fixed.plan) i l ≡ true → value_at start.fixed.plan a m
      l ≡ value_at start.fixed.plan a' m' l) → (c : Cell) → touched (access_of start.fixed.plan i) Dev c ≡ true →
      (own_memories start.fixed.plan i a).device.cells c ≡ (own_memories start.fixed.plan i a').device.cells c
  same_device h c k = go (h (spot_on start.fixed.plan i Dev c) (touched_at start.fixed.plan i Dev c k))
    where
      go : ◌≡◌ {A = Holding} (Number ((own_memories start.fixed.plan i a).device.cells c))
          (Number ((own_memories start.fixed.plan i a').device.cells c)) →
          (own_memories start.fixed.plan i a).device.cells c ≡ (own_memories start.fixed.plan i a').device.cells c
      go e = cc e

  -- the state after an action
  abbrev pub acted : State → (Answer → Left) → Answer → Memories → State
  acted u k answer n = with_condition i (Opened (k answer)) (with_memories (device_of start.fixed.plan i) n u)

  entered_is : (u : State) (n : ℕ → List MapItem) (r : Request) (k : Answer → Left) → IsAllowed start.fixed.plan i r →
      u.condition i ≡ Opened (Asks r k) → entered_after start.fixed.plan u n (event.Step i) ≡ n
  entered_is u n r k h e = fun_ext (λ j. go j (cases_eq j i))
    where
      go : (j : ℕ) → (j ≡ i) ⊎ (j ≡ i → ⊥) → entered_after start.fixed.plan u n (event.Step i) j ≡ n j
      go j (inl q) =
          cond-true (j == i) (entered_by (is_resting start.fixed.plan i) (u.condition i) (n i)) (n j) (eq-eqb j i q)
          ∙ (ap (λ c. entered_by (is_resting start.fixed.plan i) c (n i)) e ∙
          (entered_same (is_resting start.fixed.plan i) r k (n i) start.fixed.plan i h ∙ ap n (sym q)))
      go j (inr ne) =
          cond-false (j == i) (entered_by (is_resting start.fixed.plan i) (u.condition i) (n i)) (n j) (ne_eqb j i ne)

  pub next_is : (u : State) (c : Bool) (n : ℕ → List MapItem) (r : Request) (k : Answer → Left)
      (x : Option (Answer × Memories)) → u.condition i ≡ Opened (Asks r k) → act start.fixed.plan.lengths
      (start.fixed.fill i) r (own_memories start.fixed.plan i u) ≡ x →
      next_move (at_start start u c n) (Step i) ≡ result_of (at_start start u c n) (event.Step i)
      (option_map (λ p. with_condition i (Opened (k p.0)) (with_memories (device_of start.fixed.plan i) p.1 u)) x)
  next_is u c n r k x e f =
      ap (result_of (at_start start u c n) (event.Step i))
      (ap (λ d. step_item start.fixed.plan (start.fixed.fill i) i d u) e ∙ ap
      (option_map (λ p. with_condition i (Opened (k p.0)) (with_memories (device_of start.fixed.plan i) p.1 u))) f)

  next_some : (u : State) (c : Bool) (n : ℕ → List MapItem) (r : Request) (k : Answer → Left) (answer : Answer)
      (after : Memories) → IsAllowed start.fixed.plan i r → u.condition i ≡ Opened
      (Asks r k) → act start.fixed.plan.lengths (start.fixed.fill i) r (own_memories start.fixed.plan i u) ≡ Some (answer, after) →
      next_move (at_start start u c n) (Step i) ≡ at_start start (acted u k answer after) c n
  next_some u c n r k answer after h e f =
      next_is u c n r k (Some (answer, after)) e f
      ∙ ap (λ ms. at_start start (acted u k answer after) c ms) (entered_is u n r k h e)

  pub condition_there : (j : ℕ) (c : Condition) (u : State) → (j ≡ i → ⊥) →
      (with_condition i c u).condition j ≡ u.condition j
  condition_there j c u ne = cond-false (j == i) c (u.condition j) (ne_eqb j i ne)

  pub condition_here : (c : Condition) (u : State) → (with_condition i c u).condition i ≡ c
  condition_here c u = cond-true (i == i) c (u.condition i) (eq-eqb i i refl)

  pub moves_of : (u y : FineState) → parts.valid u → Does parts u (Step i) y →
      (x : State) (c : Bool) (n : ℕ → List MapItem) → y ≡ at_start start x c n →
      Moves (items_of u.fixed.plan) (board_of u.fixed.plan u.state) (Step i) (board_of start.fixed.plan x)
  moves_of u y v d x c n is =
      subst (λ (z : FineState). Moves (items_of u.fixed.plan) (board_of u.fixed.plan u.state) (Step i)
      (board_of z.fixed.plan z.state)) is (step_laws.moves u (Step i) y v d)

  -- what an action leaves in both states
  framed_lawful : (r : Request) (k : Answer → Left) →
      InOrder parts start (Step i) (at_start start a b m) (at_start start a' b' m') →
      (p : Does parts (at_start start a b m) (Step i) s') (q : Does parts (at_start start a' b' m') (Step i) t') →
      (hosts : _) (cells : _) (w : BothAct start.fixed.plan i (own_memories start.fixed.plan i a)
      (own_memories start.fixed.plan i a') hosts cells
      start.fixed.plan.lengths (start.fixed.fill i) r) →
      s' ≡ at_start start (acted a k w.answer w.after) b m → t' ≡ at_start start
      (acted a' k w.answer w.after') b' m' → Lawful_at start (at_start start a b m) (at_start start a' b' m') s' t'
      (Step i)
  framed_lawful r k o d d' hosts cells w is is' =
      subst (λ y. Lawful_at start (at_start start a b m) (at_start start a' b' m') y t' (Step i)) (sym is)
      (subst (λ z. Lawful_at start (at_start start a b m) (at_start start a' b' m') (at_start start x b m) z (Step i))
      (sym is') both)
    where
      plan : Plan
      plan = start.fixed.plan

      x : State
      x = acted a k w.answer w.after

      x' : State
      x' = acted a' k w.answer w.after'

      moves : Moves (items_of start.fixed.plan) (board_of start.fixed.plan a) (Step i) (board_of start.fixed.plan x)
      moves = moves_of (at_start start a b m) s' o.valid d x b m is

      moves' : Moves (items_of start.fixed.plan) (board_of start.fixed.plan a') (Step i) (board_of start.fixed.plan x')
      moves' = moves_of (at_start start a' b' m') t' o.turn_valid d' x' b' m' is'

      own_same : (j : ℕ) → (j ≡ i → ⊥) → own_of start.fixed.plan x m j ≡ own_of start.fixed.plan a m j
      own_same j ne =
          ap₂ (λ f g. record { phase = f; condition = g; entered = m j }) (moves.others j ne)
          (ap (λ c. on_item start.fixed.plan j Untouched (λ w. c))
          (condition_there j (Opened (k w.answer)) (with_memories (device_of start.fixed.plan i) w.after a) ne))

      own_both : own_of start.fixed.plan x m i ≡ own_of start.fixed.plan x' m' i
      own_both =
          ap₂ (λ f g. record { phase = f; condition = g; entered = m i }) (moves.item ∙ sym moves'.item)
          (ap (λ c. on_item start.fixed.plan i Untouched (λ w. c))
          (condition_here (Opened (k w.answer)) (with_memories (device_of start.fixed.plan i) w.after a) ∙ sym
          (condition_here (Opened (k w.answer)) (with_memories (device_of start.fixed.plan i) w.after' a'))))
          ∙ ap (λ ms. record {
            phase = (board_of start.fixed.plan x').condition i;
            condition =
                on_item start.fixed.plan i Untouched (λ w. x'.condition i);
            entered = ms;
          })
          (ap (λ (p : Own). p.entered) o.alike.own)

      table : (u : State) (n : Memories) (ms : ℕ → List MapItem) (c : Cell) →
          n.device.blocks ≡ (own_memories start.fixed.plan i u).device.blocks →
          value_of start.fixed.plan ms i n Tab c
          ≡ value_of start.fixed.plan ms i (own_memories start.fixed.plan i u) Tab c
      table u n ms c e =
          ap (λ bs. Entry (option_map (less (resting_in start.fixed.plan ms (device_of start.fixed.plan i))) (holder bs c)))
          e

      now : (side : Side) (c : Cell) →
          value_at start.fixed.plan x m (spot_on start.fixed.plan i side c) ≡ value_of start.fixed.plan m i w.after side c
      now side c = value_put start.fixed.plan i x w.after a.memories m side c refl

      now' : (side : Side) (c : Cell) →
          value_at start.fixed.plan x' m' (spot_on start.fixed.plan i side c)
          ≡ value_of start.fixed.plan m' i w.after' side c
      now' side c = value_put start.fixed.plan i x' w.after' a'.memories m' side c refl

      framed : (side : Side) (c : Cell) → (access_of start.fixed.plan i).writes side c ≡ false →
          value_of start.fixed.plan m i w.after side c
          ≡ value_of start.fixed.plan m i (own_memories start.fixed.plan i a) side c
      framed Host c h = ap (λ n. Number (Some n)) (w.framed.host c h)
      framed Dev c h = ap Number (w.framed.device c h)
      framed Tab c h = table a w.after m c w.framed.blocks

      changed : (l : Spot) → (items_of start.fixed.plan).writes i l ≡ false →
          value_at start.fixed.plan x m l ≡ value_at start.fixed.plan a m l
      changed l h =
          unwritten_values start.fixed.plan i a x m m l (else_put (device_of start.fixed.plan i) w.after a.memories)
          (λ j _. refl)
          (λ side f. now side l.cell ∙ (framed side l.cell f ∙ sym (value_is start.fixed.plan i a m side l.cell))) h

      same : (side : Side) (c : Cell) → touched (access_of start.fixed.plan i) side c ≡ true →
          value_of start.fixed.plan m i w.after side c ≡ value_of start.fixed.plan m' i w.after' side c
      same Host c h = ap (λ n. Number (Some n)) (w.framed.same_host c h)
      same Dev c h = ap Number (w.framed.same_device c h)
      same Tab c h =
          table a w.after m c w.framed.blocks
          ∙ (o.alike.values (spot_on start.fixed.plan i Tab c) (touched_at start.fixed.plan i Tab c h) ∙ sym
          (table a' w.after' m' c w.framed.blocks'))

      alike : (l : Spot) → touches (items_of start.fixed.plan) i l ≡ true →
          value_at start.fixed.plan x m l ≡ value_at start.fixed.plan x' m' l
      alike l h =
          touched_values start.fixed.plan i x x' m m' l
          (λ side t. now side l.cell ∙ (same side l.cell t ∙ sym (now' side l.cell))) h

      both : Lawful_at start (at_start start a b m) (at_start start a' b' m') (at_start start x b m)
          (at_start start x' b' m') (Step i)
      both = record {
        changes = record { own = λ j ne. own_same j ne; host = λ e. refl; values = λ l h. changed l h };
        follows =
            record {
              own = own_both;
              host = λ e. o.alike.host e;
              values = λ l h. alike l h;
              failed =
                  o.alike.failed;
            };
      }

  -- where program order's next action is on a cell among the item's accesses
  pub cell_lawful : (r : Request) (k : Answer → Left) → a'.condition i ≡ Opened (Asks r k) →
      IsAllowed start.fixed.plan i r → InOrder parts start (Step i) (at_start start a b m) (at_start start a' b' m') →
      Does parts (at_start start a b m) (Step i) s' → Does parts (at_start start a' b' m')
      (Step i) t' → t'.failed ≡ false → Lawful_at start (at_start start a b m) (at_start start a' b' m') s' t' (Step i)
  cell_lawful r k is h o d d' sound =
      go (both_act start.fixed.plan i (own_memories start.fixed.plan i a) (own_memories start.fixed.plan i a') (same_host o.alike.values)
      (same_device o.alike.values) start.fixed.plan.lengths (start.fixed.fill i) r h)
    where
      same : a.condition i ≡ Opened (Asks r k)
      same =
          let f = on_true start.fixed.plan i (λ w. has_step (a.condition i)) d.enabled.enabled in
          sym (at_item start.fixed.plan i f.0 f.1 Untouched (λ w. a.condition i)) ∙
          (ap (λ (x : Own). x.condition) o.alike.own ∙
          (at_item start.fixed.plan i f.0 f.1 Untouched (λ w. a'.condition i) ∙ is))

      go : (act start.fixed.plan.lengths (start.fixed.fill i) r (own_memories start.fixed.plan i a') ≡ None) ⊎ BothAct
          start.fixed.plan i (own_memories start.fixed.plan i a) (own_memories start.fixed.plan i a') (same_host o.alike.values) (same_device o.alike.values) start.fixed.plan.lengths
          (start.fixed.fill i) r →
          Lawful_at start (at_start start a b m) (at_start start a' b' m') s' t' (Step i)
      go (inl none) =
          absurd (false≢true (sym sound ∙ ap (λ (y : FineState). y.failed) (d'.step ∙ next_is a' b' m' r k None is none)))
      go (inr w) =
          framed_lawful r k o d d' (same_host o.alike.values) (same_device o.alike.values) w
          (d.step ∙ next_some a b m r k w.answer w.after h same w.is)
          (d'.step ∙ next_some a' b' m' r k w.answer w.after' h is w.is')
