-- A state in order for an event, beside the one that program order gives, has memories that are alike for its item.
use Rattle.std.proofs.Common.{◌≡◌, ◌⊎◌, ℕ, ◌+◌, ◌<◌, Bool, true, List, length, Some, ◌∙◌, ap, inl, inr, arith}
use Rattle.std.specs.Prelude.{option_map}
use Rattle.base.specs.declared.item.Cell.{Cell}
use Rattle.base.specs.declared.item.Section.{Section}
use Rattle.base.specs.declared.item.MapItem.{MapItem}
use Rattle.base.specs.Actions.{Host, Dev, Tab}
use Rattle.base.specs.Items.{Plan}
use Rattle.base.specs.Map.{Block}
use Rattle.base.specs.Blocks.{AreApart, holder}
use Rattle.fine_machine.specs.Machine.{State}
use Rattle.machine.specs.Board.{Move, item_of, touches}
use Rattle.machine.specs.Machine.{InOrder, event_touches}
use Rattle.two_memories.specs.Two.{Spot, Holding, Number, device_of, items_of, less, number_inside}
use Rattle.two_memories.proofs.Spots.{spot_on, touched_at}
use Rattle.fine_headline.proofs.FineSpots.{own_memories, value_of}
use Rattle.two_memories.proofs.LikeMemories.{touched, Quiet}
use Rattle.two_memories.proofs.AdjustedCounts.{access_of}
use Rattle.two_memories.proofs.RestingAlone.{RestingLooks}
use Rattle.fine_headline.specs.FineState.{FineState, Own, resting_in, parts}
use Rattle.fine_headline.proofs.Quietly.{at_start}
use Rattle.fine_headline.proofs.Tables.{TableLike, stood}
use Rattle.fine_headline.proofs.Resting.{others, resting_split, none_open, quiet_from}
use Rattle.fine_headline.proofs.Walking.{IsStanding, Stands}

pub record Meets (plan : Plan) (i : ℕ) (a a' : State) (m m' : ℕ → List MapItem) : Type 0 where
  pub tables : TableLike (others plan m i) (access_of plan i) (own_memories plan i a).device.blocks
      (own_memories plan i a').device.blocks
  pub quiet : Quiet (others plan m i) (access_of plan i)
  pub apart : AreApart (own_memories plan i a).device.blocks
  pub apart' : AreApart (own_memories plan i a').device.blocks
  pub hosts : (c : Cell) → touched (access_of plan i) Host c ≡ true → a.memories.host c ≡ a'.memories.host c
  pub cells : (c : Cell) → touched (access_of plan i) Dev c ≡ true →
      (own_memories plan i a).device.cells c ≡ (own_memories plan i a').device.cells c
  pub same : m i ≡ m' i
  pub none : (section : Section) → others plan m' i section ≡ 0

pub meets : (start : FineState) (a a' : State) (b b' : Bool) (m m' : ℕ → List MapItem) (e : Move) →
    RestingLooks start.fixed.plan →
    ((l : Spot) → event_touches (items_of start.fixed.plan) e l ≡ touches (items_of start.fixed.plan) (item_of e) l) →
    item_of e < length start.fixed.plan.items → InOrder parts start e (at_start start a b m)
    (at_start start a' b' m') → Stands start.fixed.plan (item_of e)
    (m' (item_of e)) (own_memories start.fixed.plan (item_of e) a').device.blocks → Meets start.fixed.plan (item_of e) a a' m m'
meets start a a' b b' m m' e looks all lt o stands = record {
  tables =
      λ c t. stood (resting_in plan m d) (resting_in plan m' d) (others plan m i) (λ s. number_inside (m' i) s)
      (holder (own_memories plan i a).device.blocks c) (holder (own_memories plan i a').device.blocks c) split only
      (λ x at. above c x at)
      (entry c (o.alike.values (spot_on plan i Tab c) (all (spot_on plan i Tab c) ∙ touched_at plan i Tab c t)));
  quiet = quiet;
  apart = o.valid.blocks d;
  apart' = o.turn_valid.blocks d;
  hosts = λ c t. host c (o.alike.values (spot_on plan i Host c) (all (spot_on plan i Host c) ∙ touched_at plan i Host c t));
  cells = λ c t. cell c (o.alike.values (spot_on plan i Dev c) (all (spot_on plan i Dev c) ∙ touched_at plan i Dev c t));
  same = same;
  none = none;
}
  where
    plan : Plan
    plan = start.fixed.plan

    i : ℕ
    i = item_of e

    d : ℕ
    d = device_of start.fixed.plan (item_of e)

    same : m (item_of e) ≡ m' (item_of e)
    same = ap (λ (p : Own). p.entered) o.alike.own

    quiet : Quiet (others start.fixed.plan m (item_of e)) (access_of start.fixed.plan (item_of e))
    quiet = quiet_from plan a m i looks o.valid.settled (λ j l k ne up t w. o.alone j l k ne up (all l ∙ t) (inl w))

    none : (section : Section) → others start.fixed.plan m' (item_of e) section ≡ 0
    none = none_open plan a' m' i o.turn_valid.settled o.turn_only

    split : (s : Section) →
        resting_in start.fixed.plan m (device_of start.fixed.plan (item_of e)) s ≡ others start.fixed.plan m (item_of e) s + number_inside (m' (item_of e)) s
    split s = resting_split plan m i s lt ∙ ap (λ ms. others plan m i s + number_inside ms s) same

    only : (s : Section) → resting_in start.fixed.plan m' (device_of start.fixed.plan (item_of e)) s ≡ number_inside (m' (item_of e)) s
    only s = let x = resting_split plan m' i s lt in let y = none s in omega arith

    above : (c : Cell) (x : Block) → holder (own_memories start.fixed.plan (item_of e) a').device.blocks c ≡ Some x →
        (number_inside (m' (item_of e)) x.section < x.count)
        ⊎ ((number_inside (m' (item_of e)) x.section ≡ 0) × (others start.fixed.plan m (item_of e) x.section ≡ 0))
    above c x at = go (stands c x at)
      where
        go : IsStanding start.fixed.plan (item_of e) (m' (item_of e)) x →
            (number_inside (m' (item_of e)) x.section < x.count)
            ⊎ ((number_inside (m' (item_of e)) x.section ≡ 0) × (others start.fixed.plan m (item_of e) x.section ≡ 0))
        go (inl h) = inl h
        go (inr h) = inr (h.0, quiet x.section h.1)

    host : (c : Cell) → ◌≡◌ {A = Holding} (Number (Some (a.memories.host c))) (Number (Some (a'.memories.host c))) →
        a.memories.host c ≡ a'.memories.host c
    host c e = cc e

    cell : (c : Cell) → ◌≡◌ {A = Holding} (Number ((own_memories start.fixed.plan (item_of e) a).device.cells c))
        (Number ((own_memories start.fixed.plan (item_of e) a').device.cells c)) →
        (own_memories start.fixed.plan (item_of e) a).device.cells c
        ≡ (own_memories start.fixed.plan (item_of e) a').device.cells c
    cell c e = cc e

    entry : (c : Cell) →
        ◌≡◌ {A = Holding} (value_of start.fixed.plan m (item_of e) (own_memories start.fixed.plan (item_of e) a) Tab c)
        (value_of start.fixed.plan m' (item_of e) (own_memories start.fixed.plan (item_of e) a') Tab c) →
        option_map (less (resting_in start.fixed.plan m (device_of start.fixed.plan (item_of e))))
        (holder (own_memories start.fixed.plan (item_of e) a).device.blocks c)
        ≡ option_map (less (resting_in start.fixed.plan m' (device_of start.fixed.plan (item_of e))))
        (holder (own_memories start.fixed.plan (item_of e) a').device.blocks c)
    entry c e = cc e
