use Rattle.std.proofs.Common.{◌≡◌, ℕ, Some, sym, ap, ◌∙◌, subst, slice_get, arith}
use Rattle.std.proofs.lemmas.Option.{slice_get-get_or}
use Rattle.std.proofs.lemmas.Result.{err_from_is_err_and}
use Rattle.host_memory.specs.declared.memory.Memory.{Memory as Arrays}
use Rattle.device.specs.declared.devices.Devices.{Devices}
use Rattle.device.specs.Devices.{OnTable, table_at}
use Rattle.device.proofs.Tables.{kept_same, own_table}
use Rattle.actions.specs.Acting.{CountsOn, InHost, IsActFault}
use Rattle.actions.specs.Control.{IsNext, IsStopped, on_host}
use Rattle.actions.specs.Strand.{request_of, side_of}
use Rattle.stepper.specs.Standing.{ActsOn, IsReady}
use Rattle.actions.specs.declared.action.Action.{Action}
use Rattle.actions.specs.declared.control.Control.{Control}
use Rattle.stepper.specs.declared.standing.Slot.{Slot}
use Rattle.stepper.specs.declared.standing.Slot.TheVariants as slot
use Rattle.stepper.specs.declared.standing.Standing.{Standing}
use Rattle.stepper.proofs.ActRooms.{counts_on, has_room, step_fault}
use Rattle.stepper.proofs.StepActs.{same_devices, same_host, stepped}
use Rattle.stepper.proofs.NextActs.{asked_next, asks_inside, in_host}
use Rattle.stepper.proofs.standing.Standing.step.Goals.{In-Some, In_ok-count}
use Rattle.stepper.proofs.standing.Standing.step.Goals as goal

-- what was taken out of the list, and the action that comes next for it
record IsTaken (now : Standing) (i : ℕ) (control : Control) (a : Action) : Type 0 where
  held : slice_get now.slots.items i ≡ Some (slot.Opened control)
  stopped : IsStopped control
  next : IsNext control (Some a)

taken : (c : In-Some) → IsTaken c.args.self.now c.args.item c.in-Opened.control c.in-Some.action
taken c =
    let xs = c.args.self.now.slots.items in
    let held : slice_get xs c.args.item ≡ Some (slot.Opened c.in-Opened.control) =
    slice_get-get_or xs c.args.item c.index_mut.result.now c.requires.inside
    ∙ ap (λ (s : Slot). Some s) (sym c.index_mut.ensures.value ∙ (sym c.replace-slot.ensures.value ∙ c.in-Opened.is)) in
    let stopped : IsStopped c.in-Opened.control = subst IsReady held c.requires.ready in record {
      held = held;
      stopped = stopped;
      next = subst (IsNext c.in-Opened.control) c.in-Some.is (c.next.ensures stopped);
    }

-- the devices and the host memory are as they were
devices_same : (c : In_ok-count) → c.count.new.self.devices ≡ c.args.self.now.devices
devices_same c =
    same_devices c.args.item c.args.self.now c.count.new.self c.replace-slot.new.dest c.in-Some.action
    c.in_ok-count.ensures.counted

host_same : (c : In_ok-count) → c.count.new.self.host ≡ c.args.self.now.host
host_same c =
    same_host c.args.item c.args.self.now c.count.new.self c.replace-slot.new.dest c.in-Some.action
    c.in_ok-count.ensures.counted

pub returns-in_err-count-clause-kept : goal.returns-in_err-count-clause-kept
returns-in_err-count-clause-kept c =
    kept_same c.args.self.now.devices c.count.new.self.devices
    (ap (λ (x : Standing). x.devices) c.in_err-count.ensures.unchanged)

pub act_on-requires-clause-section : goal.act_on-requires-clause-section
act_on-requires-clause-section c = (taken (goal.at.act_on-requires-clause-section c).In-Some).next.0

pub act_on-requires-clause-inside : goal.act_on-requires-clause-inside
act_on-requires-clause-inside c =
    let at = goal.at.act_on-requires-clause-inside c in
    let w = taken at.In-Some in
    let old = c.args.self.now in
    let control = c.in-Opened.control in
    let sh = c.requires.shown in
    let h = asked_next sh.plan sh.state c.args.item old control c.in-Some.action sh.at w.held w.next sh.may in
    subst (InHost c.in-Some.action) (sym (host_same at.In_ok-count))
    (in_host sh.plan.lengths (on_host control) c.in-Some.action old.host
    (asks_inside sh.plan.lengths (request_of (side_of (on_host control)) c.in-Some.action) h.k h.inside) sh.at.lengths)

pub act_on-requires-clause-counts : goal.act_on-requires-clause-counts
act_on-requires-clause-counts c =
    let at = goal.at.act_on-requires-clause-counts c in
    let sh = c.requires.shown in
    subst (λ (all : Devices). OnTable all c.args.device.number (CountsOn c.in-Some.action))
    (sym (devices_same at.In_ok-count))
    (counts_on sh.plan sh.state c.args.self.now c.args.device.number c.in-Some.action sh.at c.in_ok-count.ensures.fits)

pub proceed-requires : goal.proceed-requires
proceed-requires c = (taken (goal.at.proceed-requires c).In-Some).stopped

pub returns-in_err-given-clause-fault : goal.returns-in_err-given-clause-fault
returns-in_err-given-clause-fault c capacity room =
    let at = goal.at.returns-in_err-given-clause-fault c in
    let w = taken at.In-Some in
    let old = c.args.self.now in
    let control = c.in-Opened.control in
    let d = c.args.device.number in
    let own = own_table old.devices c.requires.shown.at.alike d (omega (arith, c.args.device.in_range)) in
    let f = c.in_err-given.field-0.0 in
    let was = subst (λ (all : Devices). table_at all d ≡ Some own.0) (sym (devices_same at.In_ok-count)) own.1 in
    let why =
    subst (λ b. IsActFault b c.in-Some.action own.0 old.host f) c.on_host.ensures
    (subst (λ (host : Arrays). IsActFault c.on_host.result c.in-Some.action own.0 host f) (host_same at.In_ok-count)
    (c.in_err-given.ensures.fault own.0 was)) in
    let p = err_from_is_err_and c.from_residual-in_err-given.result c.from_residual-in_err-given.ensures.1 in
    rw (p.1, p.2)
    (step_fault c.args.item d old control c.in-Some.action own.0 w.held w.next own.1 capacity room f why)

pub returns-in-Ok-clause-room : goal.returns-in-Ok-clause-room
returns-in-Ok-clause-room c capacity room =
    let at = goal.at.returns-in-Ok-clause-room c in
    let w = taken at.In-Some in
    let d = c.args.device.number in
    let done = c.in_ok-given.ensures.done in
    let t = done.becomes.before in
    has_room c.args.item d c.args.self.now c.in-Opened.control c.in-Some.action t w.held w.next
    (subst (λ (all : Devices). table_at all d ≡ Some t) (devices_same at.In_ok-count) done.becomes.was) capacity room
    (c.in_ok-given.ensures.room t done.becomes.was)

pub returns-in-Ok-clause-stepped : goal.returns-in-Ok-clause-stepped
returns-in-Ok-clause-stepped c =
    let w = taken (goal.at.returns-in-Ok-clause-stepped c).In-Some in
    stepped c.args.item c.args.self.now c.count.new.self c.replace-slot.new.dest c.in-Some.action
    c.in_ok-count.ensures.counted c.args.device.number c.in-Opened.control c.proceed.new.self c.in_ok-given.given
    c.act_on.new.host c.act_on.new.devices c.requires.inside w.held w.next c.requires.going
    (subst (λ b. ActsOn c.args.device.number b c.in-Some.action c.in_ok-given.given c.count.new.self.devices c.count.new.self.host
    c.act_on.new.devices c.act_on.new.host) c.on_host.ensures c.in_ok-given.ensures.done)
    c.in-Ok.ensures.answered c.in-Ok.ensures.stopped
