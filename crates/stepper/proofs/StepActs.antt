-- What an action leaves, put together from what the calls leave.
use Rattle.std.proofs.Common.{◌≡◌, ◌<◌, ℕ, Bool, true, false, Some, length, sym, ap, ◌∙◌, subst, arith}
use Rattle.std.specs.Prelude.{Vec, slice_get}
use Rattle.std.proofs.lemmas.Bool.{eqb-false}
use Rattle.std.specs.Vec.{with_item}
use Rattle.std.specs.declared.alloc.Global.{Global}
use Rattle.std.proofs.lemmas.List.{length-set}
use Rattle.host_memory.specs.declared.memory.Memory.{Memory as Arrays}
use Rattle.base.proofs.Places.{get_set_other, get_set_same}
use Rattle.device.specs.declared.devices.Devices.{Devices}
use Rattle.actions.specs.Acting.{answer_of}
use Rattle.actions.specs.Control.{Answers, IsNext, IsStopped, on_host}
use Rattle.actions.specs.Strand.{request_of, side_of}
use Rattle.stepper.specs.Standing.{ActsOn, FollowsOn, HasCounted}
use Rattle.actions.specs.declared.action.Action.{Action}
use Rattle.actions.specs.declared.action.Action.TheVariants as action
use Rattle.actions.specs.declared.action.Given.{Given}
use Rattle.actions.specs.declared.control.Control.{Control}
use Rattle.stepper.specs.declared.standing.Slot.{Slot}
use Rattle.stepper.specs.declared.standing.Slot.TheVariants as slot
use Rattle.stepper.specs.declared.standing.Standing.{Standing}
use Rattle.stepper.proofs.ActCounts.{entered_after}
use Rattle.stepper.proofs.AfterActs.{IsMoved, follows}

-- what counting an action leaves
pub counted_is : (a : Action) (on_host : Bool) (old new : Standing) → HasCounted a old new →
    new ≡ record old { entered = entered_after (request_of (side_of on_host) a) old.entered }
counted_is (action.Enter item) on_host old new h = h
counted_is (action.Load c) on_host old new h = h
counted_is (action.Store c n) on_host old new h = h
counted_is (action.Combine op c n) on_host old new h = h
counted_is (action.Leave item) on_host old new h = h
counted_is (action.Remove section) on_host old new h = h
counted_is (action.CopyIn c) on_host old new h = h
counted_is (action.CopyOut c) on_host old new h = h

-- the item has this control, and the memories are these
abbrev pub with_control : ℕ → Standing → Arrays → Devices → Control → Standing
with_control i counted host devices control = record counted {
  host = host;
  devices = devices;
  slots = with_item counted.slots i (slot.Opened control);
}

module _ (i : ℕ) (old counted : Standing) (nothing : Slot) (a : Action)
    (count : HasCounted a (record old { slots = with_item old.slots i nothing }) counted) where
  is : (on_host : Bool) → counted ≡ record old {
    slots = with_item old.slots i nothing;
    entered = entered_after (request_of (side_of on_host) a) old.entered;
  }
  is on_host = counted_is a on_host (record old { slots = with_item old.slots i nothing }) counted count

  pub same_devices : counted.devices ≡ old.devices
  same_devices = ap (λ (x : Standing). x.devices) (is true)

  pub same_host : counted.host ≡ old.host
  same_host = ap (λ (x : Standing). x.host) (is true)

  slots : counted.slots ≡ with_item old.slots i nothing
  slots = ap (λ (x : Standing). x.slots) (is true)

  long : length counted.slots.items ≡ length old.slots.items
  long = ap (λ (x : Vec Slot Global). length x.items) slots ∙ length-set old.slots.items i nothing

  module _ (d : ℕ) (control control' : Control) (r : Given) (host : Arrays) (devices : Devices)
      (inside : i < length old.slots.items) where
    moved_on : IsMoved i (request_of (side_of (on_host control)) a) control' old
        (with_control i counted host devices control')
    moved_on = record {
      graph = ap (λ (x : Standing). x.graph) (is true);
      ended = ap (λ (x : Standing). x.ended) (is true);
      scalars = ap (λ (x : Standing). x.scalars) (is true);
      input = ap (λ (x : Standing). x.input) (is true);
      output = ap (λ (x : Standing). x.output) (is true);
      entered = ap (λ (x : Standing). x.entered) (is (on_host control));
      slots = length-set counted.slots.items i (slot.Opened control') ∙ long;
      here = get_set_same counted.slots.items i (slot.Opened control') (let n = long in omega arith);
      others = λ k e.
          get_set_other counted.slots.items i (slot.Opened control') k (λ q. eqb-false k i e (sym q))
          ∙ ap (λ (x : Vec Slot Global). slice_get x.items k) slots
          ∙ get_set_other old.slots.items i nothing k (λ q. eqb-false k i e (sym q));
    }

    pub stepped : slice_get old.slots.items i ≡ Some (slot.Opened control) → IsNext control (Some a) →
        old.ended ≡ false → ActsOn d (on_host control) a r counted.devices counted.host devices host →
        Answers (answer_of r) control control' → IsStopped control' →
        FollowsOn d i old (with_control i counted host devices control')
    stepped held next going done answered stopped =
        follows i d old (with_control i counted host devices control') control control' a r held next going
        (subst (λ (ds : Devices). ActsOn d (on_host control) a r ds old.host devices host) same_devices
        (subst (λ (m : Arrays). ActsOn d (on_host control) a r counted.devices m devices host) same_host done))
        answered stopped moved_on
