-- What is known where an event may happen.
use Rattle.std.proofs.Common.{◌≡◌, ◌<◌, ◌≤◌, ℕ, Bool, true, false, List, Option, Some, None, length, get_or, refl, sym, ap, ◌∙◌, subst, arith}
use Rattle.std.specs.Prelude.{◌==◌, slice_get, slice_index}
use Rattle.std.proofs.lemmas.Bool.{and_parts, false≢true, true≢false}
use Rattle.base.specs.declared.item.Event.{Event}
use Rattle.base.specs.declared.item.Event.TheVariants.{Gen, Open, Step, Close}
use Rattle.base.specs.declared.item.Item.{Item}
use Rattle.base.specs.declared.tree.Region.{Region}
use Rattle.base.specs.declared.fault.RunFault.{RunFault}
use Rattle.base.specs.declared.fault.RunFault.TheVariants as fault
use Rattle.base.specs.Items.{Plan, Work}
use Rattle.base.specs.Machine.{is_open, is_ready, is_wait, is_waiting, on_item}
use Rattle.base.specs.Machine as two
use Rattle.taskgraph.specs.Board.{allows}
use Rattle.taskgraph.proofs.Laws.{allowed_is_enabled}
use Rattle.two_memories.proofs.PlanItems.{within}
use Rattle.fine_machine.specs.Left.{Asks, Finished}
use Rattle.fine_machine.specs.Machine.{State, Condition, Untouched, Generated, Opened, Closed, Passed, as_whole, has_step, is_finished, whole_condition}
use Rattle.stepper.specs.declared.standing.Slot.{Slot}
use Rattle.stepper.specs.declared.standing.Slot.TheVariants as slot
use Rattle.stepper.specs.declared.standing.Standing.{Standing}
use Rattle.stepper.specs.Standing.{IsAt, IsAtRest, IsItem, IsOpenFault, IsReady, IsStepFault, IsOnDevice, Keeps, place_of}
use Rattle.stepper.specs.Taking.{IsAble, IsTakeFault}
use Rattle.std.proofs.lemmas.Option.{same_Some, slice_get-get_or}
use Rattle.device.proofs.Starts.{as_many}
use Rattle.mapwalk.specs.Walk.{HasNoRangeFault}
use Rattle.outline.specs.Regions.{Entry}
use Rattle.outline.specs.Shown.{all_shown, as_shown}
use Rattle.present.specs.Table.{AreSections}
use Rattle.stepper.specs.Opening.{region_in}
use Rattle.stepper.proofs.Sections.{is_item, same_place, sections}

-- an event of the machine with whole items is allowed by the graph
pub allowed : (p : Plan) (now : Standing) (s : State) (e : Event) → IsAt p now s → now.ended ≡ false →
    two.enabled p (as_whole s) e ≡ true → allows now.graph e ≡ true
allowed p now s e at going may =
    allowed_is_enabled p (record (as_whole s) { place = now.graph.place }) now.graph e at.graph
    ∙ ap (λ place. two.enabled p (record (as_whole s) { place = place }) e)
    (sym (at.place ∙ ap (λ b. place_of b now.graph.place) going))
    ∙ may

open_whole : (c : Condition) → is_finished c ≡ true → is_open (whole_condition c) ≡ true
open_whole (Opened (Finished t)) may = refl
open_whole (Opened (Asks q k)) may = absurd (false≢true may)
open_whole Untouched may = absurd (false≢true may)
open_whole (Generated captured) may = absurd (false≢true may)
open_whole Closed may = absurd (false≢true may)
open_whole Passed may = absurd (false≢true may)

-- an item of the plan, where something holds of it
pub record Known (p : Plan) (i : ℕ) (holds : Work → Bool) : Type 0 where
  pub work : Work
  pub is : slice_get p.items i ≡ Some work
  pub has : holds work ≡ true

pub known : (p : Plan) (i : ℕ) (f : Work → Bool) → on_item p i false f ≡ true → Known p i f
known p i f may = go (slice_get p.items i) refl
  where
    go : (o : Option Work) → slice_get p.items i ≡ o → Known p i f
    go None is = absurd (false≢true (sym (ap (λ o. elim o [ None ↦ false | Some w ↦ f w ]) is) ∙ may))
    go (Some w) is = record {
      work = w;
      is = is;
      has = sym (ap (λ o. elim o [ None ↦ false | Some w ↦ f w ]) is) ∙ may;
    }

pub close_allowed : (p : Plan) (now : Standing) (i : ℕ) → IsAble p now (Close i) → allows now.graph (Close i) ≡ true
close_allowed p now i able =
    let k = known p i (λ w. is_finished (able.state.condition i)) able.may in
    allowed p now able.state (Close i) able.at able.going
    (ap (λ o. elim o [ None ↦ false | Some w ↦ is_open (whole_condition (able.state.condition i)) ]) k.is
    ∙ open_whole (able.state.condition i) k.has)

pub gen_inside : (p : Plan) (now : Standing) (i : ℕ) → IsAble p now (Gen i) → i < length now.slots.items
gen_inside p now i able =
    let lt = within p i (λ w. w.deferred) (and_parts (able.state.place == i) (on_item p i false (λ w. w.deferred)) able.may).1 in
    let n = able.at.slots in omega arith

pub item_inside : (p : Plan) (now : Standing) (s : State) (i : ℕ) (f : Work → Bool) → IsAt p now s → on_item p i false f ≡ true →
    i < length now.slots.items
item_inside p now s i f at may = let lt = within p i f may in let n = at.slots in omega arith

-- an item that has an action stands before it
pub opened_ready : (lengths : List ℕ) (c : Condition) (o : Option Slot) → Keeps lengths c o → has_step c ≡ true → IsReady o
opened_ready lengths (Opened left) (Some (slot.Opened control)) k may = k.stopped
opened_ready lengths (Opened left) (Some (slot.Captured scalars)) k may = k
opened_ready lengths (Opened left) (Some slot.Nothing) k may = k
opened_ready lengths (Opened left) None k may = k
opened_ready lengths Untouched o k may = absurd (false≢true may)
opened_ready lengths (Generated captured) o k may = absurd (false≢true may)
opened_ready lengths Closed o k may = absurd (false≢true may)
opened_ready lengths Passed o k may = absurd (false≢true may)

pub not_at_rest : (lengths : List ℕ) (c : Condition) (o : Option Slot) → Keeps lengths c o → has_step c ≡ true → IsAtRest o → ⊥
not_at_rest lengths (Opened left) (Some (slot.Opened control)) k may rest =
    true≢false (sym may ∙ ap (λ l. has_step (Opened l)) (k.is ∙ rest k.stopped))
not_at_rest lengths (Opened left) (Some (slot.Captured scalars)) k may rest = k
not_at_rest lengths (Opened left) (Some slot.Nothing) k may rest = k
not_at_rest lengths (Opened left) None k may rest = k
not_at_rest lengths Untouched o k may rest = false≢true may
not_at_rest lengths (Generated captured) o k may rest = false≢true may
not_at_rest lengths Closed o k may rest = false≢true may
not_at_rest lengths Passed o k may rest = false≢true may

pub open_fault : (capacity : ℕ) (p : Plan) (now : Standing) (i : ℕ) (it : Item) (r : Option Region) (f : RunFault) →
    IsItem p i it r → IsOpenFault it r i now f → IsTakeFault capacity p now (Open i) f
open_fault capacity p now i it r fault.OutOfMemory item why = tt
open_fault capacity p now i it r fault.Absent item why = λ s at may. (tt, why p s item at may)
open_fault capacity p now i it r fault.DeviceFull item why = absurd why
open_fault capacity p now i it r fault.Stranger item why = why
open_fault capacity p now i it r fault.ThreadNotStarted item why = why
open_fault capacity p now i it r fault.OtherState item why = why
open_fault capacity p now i it r fault.RangeRefused item why = why

pub step_fault : (capacity : ℕ) (p : Plan) (now : Standing) (d i : ℕ) (f : RunFault) → IsOnDevice p i d →
    IsStepFault capacity d i now f → IsTakeFault capacity p now (Step i) f
step_fault capacity p now d i fault.OutOfMemory on why = tt
step_fault capacity p now d i fault.Absent on why = λ s at may. (why.0 p s on at may, why.1 p s on at may)
step_fault capacity p now d i fault.DeviceFull on why = record { item = i; is = refl; over = λ s at may. why p s on at may }
step_fault capacity p now d i fault.Stranger on why = why
step_fault capacity p now d i fault.ThreadNotStarted on why = why
step_fault capacity p now d i fault.OtherState on why = why
step_fault capacity p now d i fault.RangeRefused on why = why

-- an item of the outline where an event of it may happen
module _ (p : Plan) (entries : List Entry) (its : List Item) (shown : all_shown entries its ≡ as_shown p.items) (i : ℕ)
    (f : Work → Bool) (may : on_item p i false f ≡ true) where
  pub in_items : i < length its
  in_items = let lt = within p i f may in let n = as_many entries its p.items shown in omega arith

  module _ (it : Item) (is : it ≡ get_or its i it) where
    at_it : slice_get its i ≡ Some it
    at_it = slice_get-get_or its i it in_items ∙ ap (λ (x : Item). Some x) (sym is)

    pub stands : (w : Work) → slice_get p.items i ≡ Some w → w.place ≡ it.place
    stands w is_w = same_place p entries its shown i it w at_it is_w

    pub found : HasNoRangeFault p → IsItem p i it (region_in entries it)
    found fine = let k = known p i f may in is_item p entries its shown fine i it k.work at_it k.is

    pub found_sections : HasNoRangeFault p → ((a : ℕ) → slice_index p.lengths a ≤ 65536) → AreSections it.maps.items
    found_sections fine short =
        let item = found fine in
        subst AreSections item.same.maps (sections p i item.work fine short item.is)

    pub on_device : HasNoRangeFault p → IsOnDevice p i it.device.number
    on_device fine w is_w =
        let item = found fine in
        ap (λ (v : Work). v.device) (same_Some w item.work (sym is_w ∙ item.is)) ∙ item.device
