-- The laws hold at an action on the table.
use Rattle.std.proofs.Common.{◌≡◌, ◌⊎◌, ℕ, ◌+◌, ◌<◌, ◌==◌, Bool, true, false, List, length, Some, None, refl, sym, ◌∙◌, ap, ap₂, inl, inr, subst, arith}
use Rattle.std.specs.Prelude.{slice_get, if◌then◌else◌}
use Rattle.std.proofs.lemmas.Bool.{false≢true, eq-eqb, ne_eqb, cond-true, cond-false}
use Rattle.base.specs.declared.item.Cell.{Cell}
use Rattle.base.specs.declared.item.Section.{Section}
use Rattle.base.specs.Actions.{Side, Host, Dev, Tab}
use Rattle.base.specs.declared.item.MapItem.{MapItem}
use Rattle.base.specs.Items.{Work, Plan}
use Rattle.base.specs.Map.{Block, Memories}
use Rattle.base.specs.Blocks.{holder}
use Rattle.base.specs.Machine.{on_item}
use Rattle.fine_machine.specs.Left.{Left, Asks, Request, Load, Store, Combine, Enter, Leave, Remove, CopyIn, CopyOut, Answer}
use Rattle.fine_machine.specs.Action.{act}
use Rattle.fine_machine.specs.Machine.{State, Untouched, Opened, has_step, with_memories}
use Rattle.machine.specs.Board.{touches, Moves}
use Rattle.machine.specs.Board.Move.{Step}
use Rattle.machine.specs.Machine.{Does, InOrder}
use Rattle.two_memories.specs.Two.{Spot, Number, Entry, device_of, items_of, number_inside}
use Rattle.two_memories.proofs.LikeMemories.{touched}
use Rattle.two_memories.proofs.Spots.{spot_on}
use Rattle.fine_headline.proofs.FineSpots.{own_memories, value_of, value_is, value_put, touched_values, unwritten_values, else_put}
use Rattle.two_memories.proofs.PlanItems.{at_item, on_true}
use Rattle.two_memories.proofs.AdjustedCounts.{to_less, access_of}
use Rattle.two_memories.proofs.RestingAlone.{RestingLooks}
use Rattle.std.proofs.lemmas.Option.{slice_get_within}
use Rattle.fine_headline.specs.FineState.{FineState, Own, board_of, own_of, value_at, resting_in, entered_by, entered_now, is_resting, next_move, parts}
use Rattle.fine_headline.proofs.Quietly.{at_start, Lawful_at}
use Rattle.fine_headline.proofs.CellSteps.{acted, next_is, condition_here, condition_there, moves_of}
use Rattle.fine_headline.proofs.Resting.{others, resting_split, stepped_split}
use Rattle.fine_headline.proofs.Walking.{Stands, Walked}
use Rattle.fine_headline.proofs.TableActs.{BothMove, both_enter, both_leave, both_remove}
use Rattle.fine_headline.proofs.Meeting.{Meets, meets}

-- an action on the table
abbrev pub IsTable : Request → Type 0
IsTable (Enter item) = Unit {0}
IsTable (Leave item) = Unit {0}
IsTable (Remove s) = Unit {0}
IsTable _ = ⊥

stands_at : (plan : Plan) (i : ℕ) (r : Request) (ms : List MapItem) (bs : List Block) → IsTable r →
    Walked plan i r ms bs → Stands plan i ms bs
stands_at plan i (Enter item) ms bs t h = h.stands
stands_at plan i (Leave item) ms bs t h = h.stands
stands_at plan i (Remove s) ms bs t h = h.stands
stands_at plan i (Load side c) ms bs t h = absurd t
stands_at plan i (Store side c n) ms bs t h = absurd t
stands_at plan i (Combine side op c n) ms bs t h = absurd t
stands_at plan i (CopyIn c) ms bs t h = absurd t
stands_at plan i (CopyOut c) ms bs t h = absurd t

module _ (start : FineState) (a a' : State) (b b' : Bool) (m m' : ℕ → List MapItem) (s' t' : FineState) (i : ℕ) where
  -- what an item has entered and rests, after an action
  abbrev stepped : (ℕ → List MapItem) → Request → ℕ → List MapItem
  stepped n r j = if j == i then entered_now (is_resting start.fixed.plan i) r (n i) else n j

  next_some : (u : State) (c : Bool) (n : ℕ → List MapItem) (r : Request) (k : Answer → Left) (answer : Answer)
      (after : Memories) → u.condition i ≡ Opened (Asks r k) → act start.fixed.plan.lengths
      (start.fixed.fill i) r (own_memories start.fixed.plan i u) ≡ Some (answer, after) →
      next_move (at_start start u c n) (Step i) ≡ at_start start (acted start a a' b b' m m' s' t' i u k answer after) c
      (stepped n r)
  next_some u c n r k answer after e f =
      next_is start a a' b b' m m' s' t' i u c n r k (Some (answer, after)) e f
      ∙ ap (λ x. at_start start (acted start a a' b b' m m' s' t' i u k answer after) c
      (λ j. if j == i then entered_by (is_resting start.fixed.plan i) x (n i) else n j)) e

  moved_lawful : (r : Request) (k : Answer → Left) → i < length start.fixed.plan.items →
      InOrder parts start (Step i) (at_start start a b m) (at_start start a' b' m') →
      (p : Does parts (at_start start a b m) (Step i) s') (q : Does parts (at_start start a' b' m') (Step i) t') →
      (h : Meets start.fixed.plan i a a' m m') →
      (w : BothMove start.fixed.plan i start.fixed.plan.lengths (start.fixed.fill i) (own_memories start.fixed.plan i a)
      (own_memories start.fixed.plan i a')
      (others start.fixed.plan m i) (m' i) h.tables h.quiet h.apart h.apart' h.cells r) →
      s' ≡ at_start start (acted start a a' b b' m m' s' t' i a k w.answer w.after) b
      (stepped m r) → t' ≡ at_start start (acted start a a' b b' m m' s' t' i a' k w.answer w.after') b'
      (stepped m' r) →
      Lawful_at start (at_start start a b m) (at_start start a' b' m') s' t' (Step i)
  moved_lawful r k lt o d d' h w is is' =
      subst (λ y. Lawful_at start (at_start start a b m) (at_start start a' b' m') y t' (Step i)) (sym is)
      (subst (λ z. Lawful_at start (at_start start a b m) (at_start start a' b' m') (at_start start x b (stepped m r)) z
      (Step i)) (sym is') both)
    where
      plan : Plan
      plan = start.fixed.plan

      x : State
      x = acted start a a' b b' m m' s' t' i a k w.answer w.after

      x' : State
      x' = acted start a a' b b' m m' s' t' i a' k w.answer w.after'

      moves : Moves (items_of start.fixed.plan) (board_of start.fixed.plan a) (Step i) (board_of start.fixed.plan x)
      moves = moves_of start a a' b b' m m' s' t' i (at_start start a b m) s' o.valid d x b (stepped m r) is

      moves' : Moves (items_of start.fixed.plan) (board_of start.fixed.plan a') (Step i) (board_of start.fixed.plan x')
      moves' =
          moves_of start a a' b b' m m' s' t' i (at_start start a' b' m') t' o.turn_valid d' x' b' (stepped m' r) is'

      now_here : (n : ℕ → List MapItem) → stepped n r i ≡ entered_now (is_resting start.fixed.plan i) r (n i)
      now_here n = cond-true (i == i) (entered_now (is_resting start.fixed.plan i) r (n i)) (n i) (eq-eqb i i refl)

      now_there : (n : ℕ → List MapItem) (j : ℕ) → (j ≡ i → ⊥) → stepped n r j ≡ n j
      now_there n j ne = cond-false (j == i) (entered_now (is_resting start.fixed.plan i) r (n i)) (n j) (ne_eqb j i ne)

      own_same : (j : ℕ) → (j ≡ i → ⊥) → own_of start.fixed.plan x (stepped m r) j ≡ own_of start.fixed.plan a m j
      own_same j ne =
          ap₂ (λ f g. record { phase = f; condition = g; entered = stepped m r j }) (moves.others j ne)
          (ap (λ c. on_item start.fixed.plan j Untouched (λ w. c))
          (condition_there start a a' b b' m m' s' t' i j (Opened (k w.answer)) (with_memories (device_of start.fixed.plan i) w.after a) ne))
          ∙ ap (λ ms. record {
            phase = (board_of start.fixed.plan a).condition j;
            condition =
                on_item start.fixed.plan j Untouched (λ w. a.condition j);
            entered = ms;
          }) (now_there m j ne)

      own_both : own_of start.fixed.plan x (stepped m r) i ≡ own_of start.fixed.plan x' (stepped m' r) i
      own_both =
          ap₂ (λ f g. record { phase = f; condition = g; entered = stepped m r i }) (moves.item ∙ sym moves'.item)
          (ap (λ c. on_item start.fixed.plan i Untouched (λ w. c))
          (condition_here start a a' b b' m m' s' t' i (Opened (k w.answer)) (with_memories (device_of start.fixed.plan i) w.after a) ∙ sym
          (condition_here start a a' b b' m m' s' t' i (Opened (k w.answer)) (with_memories (device_of start.fixed.plan i) w.after' a'))))
          ∙ ap (λ ms. record {
            phase = (board_of start.fixed.plan x').condition i;
            condition =
                on_item start.fixed.plan i Untouched (λ w. x'.condition i);
            entered = ms;
          })
          (now_here m ∙ (ap (entered_now (is_resting start.fixed.plan i) r) h.same ∙ sym (now_here m')))

      old_split : (s : Section) →
          resting_in start.fixed.plan m (device_of start.fixed.plan i) s ≡ others start.fixed.plan m i s + number_inside (m' i) s
      old_split s =
          resting_split start.fixed.plan m i s lt ∙ ap (λ ms. others start.fixed.plan m i s + number_inside ms s) h.same

      now_split : (s : Section) →
          resting_in start.fixed.plan (stepped m r) (device_of start.fixed.plan i) s ≡ others start.fixed.plan m i s + number_inside
          (entered_now (is_resting start.fixed.plan i) r (m' i)) s
      now_split s =
          stepped_split start.fixed.plan m i (entered_now (is_resting start.fixed.plan i) r (m i)) s lt ∙ ap
          (λ ms. others start.fixed.plan m i s + number_inside (entered_now (is_resting start.fixed.plan i) r ms) s)
          h.same

      turn_split : (s : Section) →
          resting_in start.fixed.plan (stepped m' r) (device_of start.fixed.plan i) s ≡ number_inside
          (entered_now (is_resting start.fixed.plan i) r (m' i)) s
      turn_split s =
          let x = stepped_split start.fixed.plan m' i
          (entered_now (is_resting start.fixed.plan i) r (m' i)) s lt in let y = h.none s in omega arith

      now : (side : Side) (c : Cell) →
          value_at start.fixed.plan x (stepped m r) (spot_on start.fixed.plan i side c)
          ≡ value_of start.fixed.plan (stepped m r) i w.after side c
      now side c = value_put start.fixed.plan i x w.after a.memories (stepped m r) side c refl

      now' : (side : Side) (c : Cell) →
          value_at start.fixed.plan x' (stepped m' r) (spot_on start.fixed.plan i side c)
          ≡ value_of start.fixed.plan (stepped m' r) i w.after' side c
      now' side c = value_put start.fixed.plan i x' w.after' a'.memories (stepped m' r) side c refl

      framed : (side : Side) (c : Cell) → (access_of start.fixed.plan i).writes side c ≡ false →
          value_of start.fixed.plan (stepped m r) i w.after side c
          ≡ value_of start.fixed.plan m i (own_memories start.fixed.plan i a) side c
      framed Host c e = ap (λ (f : Cell → ℕ). Number (Some (f c))) w.moved.host
      framed Dev c e = ap Number (w.moved.cells c e)
      framed Tab c e =
          ap Entry (w.moved.kept c e (resting_in start.fixed.plan m (device_of start.fixed.plan i))
          (resting_in start.fixed.plan (stepped m r) (device_of start.fixed.plan i)) old_split now_split)

      changed : (l : Spot) → (items_of start.fixed.plan).writes i l ≡ false →
          value_at start.fixed.plan x (stepped m r) l ≡ value_at start.fixed.plan a m l
      changed l e =
          unwritten_values start.fixed.plan i a x m (stepped m r) l
          (else_put (device_of start.fixed.plan i) w.after a.memories) (now_there m)
          (λ side f. now side l.cell ∙ (framed side l.cell f ∙ sym (value_is start.fixed.plan i a m side l.cell))) e

      same : (side : Side) (c : Cell) → touched (access_of start.fixed.plan i) side c ≡ true →
          value_of start.fixed.plan (stepped m r) i w.after side c
          ≡ value_of start.fixed.plan (stepped m' r) i w.after' side c
      same Host c e =
          ap (λ (f : Cell → ℕ). Number (Some (f c))) w.moved.host ∙
          (ap (λ n. Number (Some n)) (h.hosts c e) ∙ sym (ap (λ (f : Cell → ℕ). Number (Some (f c))) w.moved.host'))
      same Dev c e = ap Number (w.moved.same_cells c e)
      same Tab c e =
          ap Entry (to_less (resting_in start.fixed.plan (stepped m r) (device_of start.fixed.plan i))
          (resting_in start.fixed.plan (stepped m' r) (device_of start.fixed.plan i))
          (others start.fixed.plan m i) (λ s. number_inside (entered_now (is_resting start.fixed.plan i) r (m' i)) s)
          (holder w.after.device.blocks c) (holder w.after'.device.blocks c) now_split turn_split (w.moved.tables c e))

      alike : (l : Spot) → touches (items_of start.fixed.plan) i l ≡ true →
          value_at start.fixed.plan x (stepped m r) l ≡ value_at start.fixed.plan x' (stepped m' r) l
      alike l e =
          touched_values start.fixed.plan i x x' (stepped m r) (stepped m' r) l
          (λ side t. now side l.cell ∙ (same side l.cell t ∙ sym (now' side l.cell))) e

      both : Lawful_at start (at_start start a b m) (at_start start a' b' m') (at_start start x b (stepped m r))
          (at_start start x' b' (stepped m' r)) (Step i)
      both = record {
        changes = record { own = λ j ne. own_same j ne; host = λ e. refl; values = λ l e. changed l e };
        follows =
            record {
              own = own_both;
              host = λ e. o.alike.host e;
              values = λ l e. alike l e;
              failed =
                  o.alike.failed;
            };
      }

  -- where program order's next action is one on the table that the walk knows
  pub table_lawful : RestingLooks start.fixed.plan → (r : Request) (k : Answer → Left) → IsTable r →
      a'.condition i ≡ Opened (Asks r k) → Walked start.fixed.plan i r (m' i) (own_memories start.fixed.plan i a').device.blocks →
      InOrder parts start (Step i) (at_start start a b m) (at_start start a' b' m') →
      Does parts (at_start start a b m) (Step i) s' → Does parts (at_start start a' b' m')
      (Step i) t' → t'.failed ≡ false → Lawful_at start (at_start start a b m) (at_start start a' b' m') s' t' (Step i)
  table_lawful looks r k table is walked o d d' sound = go r refl table walked (λ t. next_lawful t)
    where
      f : (w : Work) × (slice_get start.fixed.plan.items i ≡ Some w) × (has_step (a.condition i) ≡ true)
      f = on_true start.fixed.plan i (λ w. has_step (a.condition i)) d.enabled.enabled

      lt : i < length start.fixed.plan.items
      lt = slice_get_within start.fixed.plan.items i f.0 f.1

      same : a.condition i ≡ Opened (Asks r k)
      same =
          sym (at_item start.fixed.plan i f.0 f.1 Untouched (λ w. a.condition i)) ∙
          (ap (λ (x : Own). x.condition) o.alike.own ∙
          (at_item start.fixed.plan i f.0 f.1 Untouched (λ w. a'.condition i) ∙ is))

      h : Meets start.fixed.plan i a a' m m'
      h =
          meets start a a' b b' m m' (Step i) looks (λ l. refl) lt o
          (stands_at start.fixed.plan i r (m' i) (own_memories start.fixed.plan i a').device.blocks table walked)

      next_lawful : (act start.fixed.plan.lengths (start.fixed.fill i) r (own_memories start.fixed.plan i a') ≡ None) ⊎ BothMove start.fixed.plan
          i start.fixed.plan.lengths (start.fixed.fill i) (own_memories start.fixed.plan i a)
          (own_memories start.fixed.plan i a') (others start.fixed.plan m i)
          (m' i) h.tables h.quiet h.apart h.apart' h.cells r →
          Lawful_at start (at_start start a b m) (at_start start a' b' m') s' t' (Step i)
      next_lawful (inl none) =
          absurd (false≢true (sym sound ∙ ap (λ (y : FineState). y.failed)
          (d'.step ∙ next_is start a a' b b' m m' s' t' i a' b' m' r k None is none)))
      next_lawful (inr w) =
          moved_lawful r k lt o d d' h w (d.step ∙ next_some a b m r k w.answer w.after same w.is)
          (d'.step ∙ next_some a' b' m' r k w.answer w.after' is w.is')

      go : (q : Request) → r ≡ q → IsTable q → Walked start.fixed.plan i q (m' i) (own_memories start.fixed.plan i a').device.blocks →
          ((act start.fixed.plan.lengths (start.fixed.fill i) r (own_memories start.fixed.plan i a') ≡ None) ⊎ BothMove start.fixed.plan i
          start.fixed.plan.lengths (start.fixed.fill i) (own_memories start.fixed.plan i a)
          (own_memories start.fixed.plan i a') (others start.fixed.plan m i)
          (m' i) h.tables h.quiet h.apart h.apart' h.cells r → Lawful_at start (at_start start a b m)
          (at_start start a' b' m') s' t' (Step i)) →
          Lawful_at start (at_start start a b m) (at_start start a' b' m') s' t' (Step i)
      go (Enter item) e table walked next =
          next (subst (λ q. (act start.fixed.plan.lengths (start.fixed.fill i) q (own_memories start.fixed.plan i a') ≡ None) ⊎ BothMove
          start.fixed.plan i start.fixed.plan.lengths (start.fixed.fill i) (own_memories start.fixed.plan i a)
          (own_memories start.fixed.plan i a')
          (others start.fixed.plan m i) (m' i) h.tables h.quiet h.apart h.apart' h.cells q) (sym e)
          (both_enter start.fixed.plan i start.fixed.plan.lengths (start.fixed.fill i) (own_memories start.fixed.plan i a)
          (own_memories start.fixed.plan i a')
          (others start.fixed.plan m i) (m' i) h.tables h.quiet h.apart h.apart' h.cells item walked))
      go (Leave item) e table walked next =
          next (subst (λ q. (act start.fixed.plan.lengths (start.fixed.fill i) q (own_memories start.fixed.plan i a') ≡ None) ⊎ BothMove
          start.fixed.plan i start.fixed.plan.lengths (start.fixed.fill i) (own_memories start.fixed.plan i a)
          (own_memories start.fixed.plan i a')
          (others start.fixed.plan m i) (m' i) h.tables h.quiet h.apart h.apart' h.cells q) (sym e)
          (both_leave start.fixed.plan i start.fixed.plan.lengths (start.fixed.fill i) (own_memories start.fixed.plan i a)
          (own_memories start.fixed.plan i a')
          (others start.fixed.plan m i) (m' i) h.tables h.quiet h.apart h.apart' h.cells item walked))
      go (Remove s) e table walked next =
          next (subst (λ q. (act start.fixed.plan.lengths (start.fixed.fill i) q (own_memories start.fixed.plan i a') ≡ None) ⊎ BothMove
          start.fixed.plan i start.fixed.plan.lengths (start.fixed.fill i) (own_memories start.fixed.plan i a)
          (own_memories start.fixed.plan i a')
          (others start.fixed.plan m i) (m' i) h.tables h.quiet h.apart h.apart' h.cells q) (sym e)
          (inr (both_remove start.fixed.plan i start.fixed.plan.lengths (start.fixed.fill i) (own_memories start.fixed.plan i a)
          (own_memories start.fixed.plan i a')
          (others start.fixed.plan m i) (m' i) h.tables h.quiet h.apart h.apart' h.cells s walked)))
      go (Load side c) e table walked next = absurd table
      go (Store side c n) e table walked next = absurd table
      go (Combine side op c n) e table walked next = absurd table
      go (CopyIn c) e table walked next = absurd table
      go (CopyOut c) e table walked next = absurd table
