-- Room for the next action of an item, and why an action is not done.
use Rattle.std.proofs.Common.{◌≡◌, ◌+◌, ◌<◌, ◌≤◌, ℕ, Bool, true, false, Option, Some, ap, ◌∙◌, arith}
use Rattle.std.specs.Prelude.{◌^◌, nat_lt, option_map, slice_get}
use Rattle.std.proofs.lemmas.Bool.Decides.{nat_tests}
use Rattle.base.specs.declared.fault.RunFault.{RunFault}
use Rattle.base.specs.declared.fault.RunFault.TheVariants as fault
use Rattle.base.specs.Items.{Plan}
use Rattle.base.specs.Map.{Memories, in_use}
use Rattle.fine_machine.specs.Left.{Answer, Request}
use Rattle.fine_machine.specs.Machine.{State}
use Rattle.present.specs.declared.Table.{Table}
use Rattle.present.specs.Table.{first_cell}
use Rattle.device.specs.Devices.{HaveRoom, OnTable, table_at}
use Rattle.device.proofs.Counts.{table_counts}
use Rattle.actions.specs.Acting.{ActFails, CountsOn, FitsIn, IsActFault, IsOver, OnEntry}
use Rattle.actions.specs.Control.{IsNext, on_host}
use Rattle.actions.specs.Strand.{request_of, side_of}
use Rattle.stepper.specs.Standing.{FailsOn, HasRoomAt, IsAt, IsStepFault, fill_from, order_from, needs}
use Rattle.actions.specs.declared.action.Action.{Action}
use Rattle.actions.specs.declared.action.Action.TheVariants as action
use Rattle.actions.specs.declared.control.Control.{Control}
use Rattle.stepper.specs.declared.standing.Slot.TheVariants as slot
use Rattle.stepper.specs.declared.standing.Standing.{Standing}
use Rattle.stepper.proofs.NextActs.{act_is, after, asked_next, over_is, step_is}

lt_true : (a b : ℕ) → a < b → nat_lt a b ≡ true
lt_true a b h = grind (arith, nat_tests)

lt_false : (a b : ℕ) → b ≤ a → nat_lt a b ≡ false
lt_false a b h = grind (arith, nat_tests)

-- the counts that are shown fit
pub counts_on : (plan : Plan) (s : State) (now : Standing) (d : ℕ) (a : Action) → IsAt plan now s →
    OnEntry a (λ item. now.entered + 1 < 2 ^ 64) → OnTable now.devices d (CountsOn a)
counts_on plan s now d (action.Enter item) at fits t was =
    let low = table_counts t (s.memories.devices d) now.entered (at.devices d t was) (at.counts d)
    (first_cell item.section) in omega arith
counts_on plan s now d (action.Load c) at fits t was = tt
counts_on plan s now d (action.Store c n) at fits t was = tt
counts_on plan s now d (action.Combine op c n) at fits t was = tt
counts_on plan s now d (action.Leave item) at fits t was = tt
counts_on plan s now d (action.Remove section) at fits t was = tt
counts_on plan s now d (action.CopyIn c) at fits t was = tt
counts_on plan s now d (action.CopyOut c) at fits t was = tt

module _ (i d : ℕ) (now : Standing) (control : Control) (a : Action) (t : Table)
    (held : slice_get now.slots.items i ≡ Some (slot.Opened control)) (next : IsNext control (Some a))
    (was : table_at now.devices d ≡ Some t) where
  abbrev request : Request
  request = request_of (side_of (on_host control)) a

  module _ (capacity : ℕ) (room : HaveRoom now.devices capacity) where
    -- the cells that would be in use
    abbrev total : State → ℕ
    total s = in_use (s.memories.devices d).blocks + needs request (s.memories.devices d).blocks

    module _ (plan : Plan) (s : State) (at : IsAt plan now s) where
      none : in_use (s.memories.devices d).blocks + 0 ≤ capacity
      none =
          let used = (at.devices d t was).in_use in
          let most = t.room in
          let has = room d t was in omega arith

      few : (b : Action) (on_host : Bool) → FitsIn b t →
          in_use (s.memories.devices d).blocks + needs (request_of (side_of on_host) b) (s.memories.devices d).blocks
          ≤ capacity
      few (action.Enter item) on_host fits =
          let shown = at.devices d t was in
          let low = fits (s.memories.devices d) shown in
          let used = shown.in_use in
          let has = room d t was in omega arith
      few (action.Load c) on_host fits = none
      few (action.Store c n) on_host fits = none
      few (action.Combine op c n) on_host fits = none
      few (action.Leave item) on_host fits = none
      few (action.Remove section) on_host fits = none
      few (action.CopyIn c) on_host fits = none
      few (action.CopyOut c) on_host fits = none

      many : (b : Action) (on_host : Bool) → IsOver b t →
          capacity
          < in_use (s.memories.devices d).blocks + needs (request_of (side_of on_host) b) (s.memories.devices d).blocks
      many (action.Enter item) on_host over =
          let shown = at.devices d t was in
          let high = over (s.memories.devices d) shown in
          let used = shown.in_use in
          let has = room d t was in omega arith
      many (action.Load c) on_host over = absurd over
      many (action.Store c n) on_host over = absurd over
      many (action.Combine op c n) on_host over = absurd over
      many (action.Leave item) on_host over = absurd over
      many (action.Remove section) on_host over = absurd over
      many (action.CopyIn c) on_host over = absurd over
      many (action.CopyOut c) on_host over = absurd over

    pub has_room : FitsIn a t → HasRoomAt capacity d i now false
    has_room fits plan s on at may =
        let h = asked_next plan s i now control a at held next may in
        over_is plan s i d request control h on capacity
        ∙ lt_false capacity (total s) (few plan s at a (on_host control) fits)

    has_no_room : IsOver a t → HasRoomAt capacity d i now true
    has_no_room over plan s on at may =
        let h = asked_next plan s i now control a at held next may in
        over_is plan s i d request control h on capacity
        ∙ lt_true capacity (total s) (many plan s at a (on_host control) over)

    fails : ActFails (on_host control) a t now.host → FailsOn d i now
    fails refused plan s on at may =
        let h = asked_next plan s i now control a at held next may in
        step_is plan s i d request control h on (fill_from now) (order_from now)
        ∙ ap (λ (o : Option (Answer × Memories)). option_map (after plan s i d request control h on) o)
        (act_is plan s i d request control h on now t at was ∙ refused (s.memories.devices d) (at.devices d t was))

    pub step_fault : (f : RunFault) → IsActFault (on_host control) a t now.host f → IsStepFault capacity d i now f
    step_fault fault.OutOfMemory why = tt
    step_fault fault.DeviceFull why = has_no_room why
    step_fault fault.Absent why = (has_room why.0, fails why.1)
    step_fault fault.Stranger why = absurd why
    step_fault fault.ThreadNotStarted why = absurd why
    step_fault fault.OtherState why = absurd why
    step_fault fault.RangeRefused why = absurd why
