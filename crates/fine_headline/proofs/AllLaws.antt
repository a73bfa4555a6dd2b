-- The fine-grained machine keeps the laws from which the order of events is free.
use Rattle.std.proofs.Common.{◌≡◌, ℕ, Bool, true, false, List, Some, refl, sym, subst}
use Rattle.std.specs.Prelude.{slice_get}
use Rattle.std.proofs.lemmas.Bool.{false≢true}
use Rattle.std.proofs.lemmas.Option.{slice_get_within}
use Rattle.base.specs.declared.item.MapItem.{MapItem}
use Rattle.base.specs.Items.{Work}
use Rattle.fine_machine.specs.Left.{Left, Finished, Asks, Request, Load, Store, Combine, Enter, Leave, Remove, CopyIn, CopyOut, Answer}
use Rattle.fine_machine.specs.Machine.{State, Condition, Untouched, Generated, Opened, Closed, Passed, has_step}
use Rattle.machine.specs.Board.{Move}
use Rattle.machine.specs.Board.Move.{Gen, Open, Step, Close, Wait}
use Rattle.machine.specs.Machine.{InOrder, Does, Laws}
use Rattle.two_memories.proofs.PlanItems.{on_true}
use Rattle.two_memories.proofs.RestingAlone.{RestingLooks}
use Rattle.two_memories.proofs.RestingLooks.{resting_looks}
use Rattle.two_memories.proofs.WalkBlocks.{walks_blocks}
use Rattle.fine_headline.specs.FineState.{Fixed, FineState, parts}
use Rattle.fine_headline.proofs.StepLaws.{step_laws}
use Rattle.fine_headline.proofs.FineSpots.{own_memories}
use Rattle.fine_headline.proofs.Quietly.{at_start, Lawful_at}
use Rattle.fine_headline.proofs.Events.{gen_lawful, wait_lawful, close_lawful, open_lawful}
use Rattle.fine_headline.proofs.CellSteps.{cell_lawful}
use Rattle.fine_headline.proofs.TableSteps.{table_lawful}
use Rattle.fine_headline.proofs.Walking.{Walked}
use Rattle.fine_headline.proofs.TurnWalks.{TurnAt, turn_walk}
use Rattle.fine_headline.proofs.Finding.{updates_find}

module _ (start : FineState) (a a' : State) (b b' : Bool) (m m' : ℕ → List MapItem) (s' t' : FineState) where
  abbrev LawfulAt : Move → Type 0
  LawfulAt e = Lawful_at start (at_start start a b m) (at_start start a' b' m') s' t' e

  -- an action that program order knows
  action_lawful : (i : ℕ) → InOrder parts start (Step i) (at_start start a b m) (at_start start a' b' m') →
      Does parts (at_start start a b m) (Step i) s' → Does parts (at_start start a' b' m') (Step i) t' →
      t'.failed ≡ false →
      (r : Request) (k : Answer → Left) → a'.condition i ≡ Opened (Asks r k) → Walked start.fixed.plan i r
      (m' i) (own_memories start.fixed.plan i a').device.blocks → LawfulAt (Step i)
  action_lawful i o d d' sound r k is h = go r is h
    where
      looks : RestingLooks start.fixed.plan
      looks = resting_looks start.fixed.plan o.starts.lawful (walks_blocks start.fixed.plan o.starts.lawful)

      go : (r : Request) → a'.condition i ≡ Opened (Asks r k) →
          Walked start.fixed.plan i r (m' i) (own_memories start.fixed.plan i a').device.blocks → LawfulAt (Step i)
      go (Load side c) is h = cell_lawful start a a' b b' m m' s' t' i (Load side c) k is h o d d' sound
      go (Store side c n) is h = cell_lawful start a a' b b' m m' s' t' i (Store side c n) k is h o d d' sound
      go (Combine side op c n) is h =
          cell_lawful start a a' b b' m m' s' t' i (Combine side op c n) k is h o d d' sound
      go (CopyIn c) is h = cell_lawful start a a' b b' m m' s' t' i (CopyIn c) k is h o d d' sound
      go (CopyOut c) is h = cell_lawful start a a' b b' m m' s' t' i (CopyOut c) k is h o d d' sound
      go (Enter item) is h = table_lawful start a a' b b' m m' s' t' i looks (Enter item) k tt is h o d d' sound
      go (Leave item) is h = table_lawful start a a' b b' m m' s' t' i looks (Leave item) k tt is h o d d' sound
      go (Remove s) is h = table_lawful start a a' b b' m m' s' t' i looks (Remove s) k tt is h o d d' sound

  step_lawful : (i : ℕ) → InOrder parts start (Step i) (at_start start a b m) (at_start start a' b' m') →
      Does parts (at_start start a b m) (Step i) s' → Does parts (at_start start a' b' m') (Step i) t' →
      t'.failed ≡ false → LawfulAt (Step i)
  step_lawful i o d d' sound = by (on_true start.fixed.plan i (λ w. has_step (a'.condition i)) d'.enabled.enabled)
    where
      by : (w : Work) × (slice_get start.fixed.plan.items i ≡ Some w) × (has_step (a'.condition i) ≡ true) →
          LawfulAt (Step i)
      by r =
          go (a'.condition i) refl r.2 (turn_walk start o.starts i (at_start start a' b' m') o.turn d'.enabled.sound
          (slice_get_within start.fixed.plan.items i r.0 r.1) r.0 r.1).own
        where
          go : (c : Condition) → a'.condition i ≡ c → has_step c ≡ true →
              TurnAt start.fixed.plan (start.fixed.fill i) i r.0 (a'.condition i) (own_memories start.fixed.plan i a').device.blocks (m' i) →
              LawfulAt (Step i)
          go (Opened (Asks q k)) e h walked =
              action_lawful i o d d' sound q k e (subst (λ c. TurnAt start.fixed.plan (start.fixed.fill i) i r.0 c
              (own_memories start.fixed.plan i a').device.blocks (m' i)) e walked).1.0
          go (Opened (Finished t)) e h walked = absurd (false≢true h)
          go Untouched e h walked = absurd (false≢true h)
          go (Generated captured) e h walked = absurd (false≢true h)
          go Closed e h walked = absurd (false≢true h)
          go Passed e h walked = absurd (false≢true h)

  every_event : (e : Move) → InOrder parts start e (at_start start a b m) (at_start start a' b' m') →
      Does parts (at_start start a b m) e s' → Does parts (at_start start a' b' m') e t' → t'.failed ≡ false →
      LawfulAt e
  every_event (Gen i) o d d' sound = gen_lawful start a a' b b' m m' s' t' i o d d'
  every_event (Open i) o d d' sound =
      open_lawful start a a' b b' m m' s' t' i o.starts.lawful o d d' sound
      (λ w at u. updates_find start a a' b b' m m' t' i o d' sound w at u)
  every_event (Step i) o d d' sound = step_lawful i o d d' sound
  every_event (Close i) o d d' sound = close_lawful start a a' b b' m m' s' t' i o.starts.lawful o d d'
  every_event (Wait i) o d d' sound = wait_lawful start a a' b b' m m' s' t' i o d d'

every_state : (start s t s' t' : FineState) (e : Move) → InOrder parts start e s t → Does parts s e s' → Does parts t e t' →
    t'.failed ≡ false → Lawful_at start s t s' t' e
every_state start s t s' t' e o d d' sound =
    subst (λ f. Case f t.fixed) (sym o.fixed)
    (subst (λ g. Case start.fixed g) (sym o.turn_fixed)
    (λ o d d' sound. every_event start s.state t.state s.failed t.failed s.entered t.entered s' t' e o d d' sound)) o d
    d' sound
  where
    with_fixed : FineState → Fixed → FineState
    with_fixed x f = record { fixed = f; state = x.state; failed = x.failed; entered = x.entered }

    Case : Fixed → Fixed → Type 0
    Case f g =
        InOrder parts start e (with_fixed s f) (with_fixed t g) → Does parts (with_fixed s f) e s' → Does parts
        (with_fixed t g) e t' → t'.failed ≡ false → Lawful_at start (with_fixed s f) (with_fixed t g) s' t' e

pub laws : Laws parts
laws = record {
  steps = step_laws;
  changes = λ start s t s' t' e o d d' sound. (every_state start s t s' t' e o d d' sound).changes;
  follows = λ start s t s' t' e o d d' sound. (every_state start s t s' t' e o d d' sound).follows;
}
