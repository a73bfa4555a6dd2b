-- The action that an open item asks for next, as its control has it.
use Rattle.std.proofs.Common.{◌≡◌, ℕ, true, Some, sym, ap, subst}
use Rattle.std.specs.Prelude.{slice_get}
use Rattle.std.proofs.lemmas.Option.{slice_get_within}
use Rattle.base.specs.declared.item.Event.{Event}
use Rattle.base.specs.declared.item.Event.TheVariants.{Step}
use Rattle.base.specs.Items.{Plan, plan}
use Rattle.fine_machine.specs.Machine.{State, enabled, has_step}
use Rattle.actions.specs.Control.{IsNext, IsStopped, on_host}
use Rattle.actions.specs.Strand.{request_of, side_of}
use Rattle.actions.specs.declared.action.Action.{Action}
use Rattle.actions.specs.declared.control.Control.{Control}
use Rattle.stepper.specs.declared.standing.Slot.TheVariants as slot
use Rattle.stepper.specs.declared.standing.Standing.{Standing}
use Rattle.stepper.specs.Run.{Run, state_of}
use Rattle.stepper.specs.Standing.{IsAt, IsReady, asked}
use Rattle.stepper.proofs.Able.{known, opened_ready}
use Rattle.stepper.proofs.NextActs.{asked_next}

-- what a control does next is what the state that is shown asks for
pub asks : (p : Plan) (s : State) (i : ℕ) (now : Standing) (control : Control) (a : Action) → IsAt p now s →
    slice_get now.slots.items i ≡ Some (slot.Opened control) → (IsStopped control → IsNext control (Some a)) →
    enabled p s (Step i) ≡ true → asked (s.condition i) ≡ Some (request_of (side_of (on_host control)) a)
asks p s i now control a at held next may =
    let k = known p i (λ w. has_step (s.condition i)) may in
    let stopped : IsStopped control =
    subst IsReady held
    (opened_ready p.lengths (s.condition i) (slice_get now.slots.items i)
    (at.kept i (slice_get_within p.items i k.work k.is)) k.has) in
    ap asked (asked_next p s i now control a at held (next stopped) may).condition

-- an event of a run that is a step may happen where it is shown
pub may_step : (r now : Run) (e : Event) (i : ℕ) → r ≡ now → e ≡ Step i → enabled (plan now.program) (state_of now) e ≡ true →
    enabled (plan r.program) (state_of r) (Step i) ≡ true
may_step r now e i view is may =
    subst (λ d. enabled (plan r.program) (state_of r) d ≡ true) is
    (subst (λ (x : Run). enabled (plan x.program) (state_of x) e ≡ true) (sym view) may)
