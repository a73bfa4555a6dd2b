use Rattle.std.proofs.Common.{◌≡◌, ℕ, Option, Some, None, IfNone, sym, subst}
use Rattle.std.specs.Prelude.{slice_get}
use Rattle.base.specs.declared.item.Event.{Event}
use Rattle.base.specs.Items.{plan}
use Rattle.device.specs.Run.{state_of}
use Rattle.host.specs.Idle.{IsHostIdle, turn_of}
use Rattle.host.proofs.Idle.{host_idle, host_turn, same_items}
use Rattle.host.proofs.board.Board.next_for_host.Goals as goal

pub returns-in_err-event-clause-none : goal.returns-in_err-event-clause-none
returns-in_err-event-clause-none g c =
    let r = c.args.self.now.state in
    let items = c.items.result.now in
    subst (λ (o : Option Event). IfNone o (IsHostIdle (plan r.program) (state_of r))) (sym c.from_residual.ensures)
    (host_idle (plan r.program) (state_of r) items None
    (same_items c.args.self.now.image.now r items c.args.self.now.program c.items.ensures.shown)
    (subst (λ (n : ℕ). ◌≡◌ {A = Option Event} None (turn_of n (slice_get items n))) c.place.ensures c.in_err-event.ensures) tt)

pub returns-then-is_enabled-clause-own : goal.returns-then-is_enabled-clause-own
returns-then-is_enabled-clause-own g c =
    let r = c.args.self.now.state in
    let items = c.items.result.now in
    host_turn (plan r.program) (state_of r) items c.in_ok-event.event
    (same_items c.args.self.now.image.now r items c.args.self.now.program c.items.ensures.shown)
    (sym (subst (λ (n : ℕ). Some c.in_ok-event.event ≡ turn_of n (slice_get items n)) c.place.ensures c.in_ok-event.ensures))

pub returns-else-is_enabled-clause-none : goal.returns-else-is_enabled-clause-none
returns-else-is_enabled-clause-none g c =
    let r = c.args.self.now.state in
    let items = c.items.result.now in
    host_idle (plan r.program) (state_of r) items (Some c.in_ok-event.event)
    (same_items c.args.self.now.image.now r items c.args.self.now.program c.items.ensures.shown)
    (subst (λ (n : ℕ). Some c.in_ok-event.event ≡ turn_of n (slice_get items n)) c.place.ensures c.in_ok-event.ensures)
    (sym c.if-is_enabled.ensures)
