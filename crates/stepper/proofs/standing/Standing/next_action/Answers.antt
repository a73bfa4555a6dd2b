use Rattle.std.proofs.Common.{◌≡◌, Some, sym, ap, ◌∙◌, subst, slice_get}
use Rattle.std.proofs.lemmas.Bool.{ltb-true}
use Rattle.std.proofs.lemmas.Option.{slice_get-get_or}
use Rattle.actions.specs.Control.{IsNext, IsStopped}
use Rattle.actions.specs.Strand.{request_of, side_of}
use Rattle.stepper.specs.Standing.{asked}
use Rattle.stepper.specs.declared.standing.Slot.{Slot}
use Rattle.stepper.specs.declared.standing.Slot.TheVariants as slot
use Rattle.stepper.proofs.Asked.{asks}
use Rattle.stepper.proofs.standing.Standing.next_action.Goals.{In-Some-Opened}
use Rattle.stepper.proofs.standing.Standing.next_action.Goals as goal

held : (c : In-Some-Opened) →
    slice_get c.args.self.now.slots.items c.args.item ≡ Some (slot.Opened c.in-Some-Opened.control)
held c =
    let there = c.in-Some-Opened.ensures.lookup in
    ap (λ xs. slice_get xs c.args.item) (sym c.deref.ensures.value)
    ∙ slice_get-get_or c.deref.result.now c.args.item c.in-Some-Opened.field-0.now
    (ltb-true c.args.item _ (sym there.0))
    ∙ ap (λ (s : Slot). Some s) (sym there.1 ∙ c.in-Some-Opened.field-0-is)

pub returns-in_ok-action-in-Some-Opened : goal.returns-in_ok-action-in-Some-Opened
returns-in_ok-action-in-Some-Opened c p s at may =
    let control = c.in-Some-Opened.control in
    let action = c.in_ok-action-in-Some-Opened.action in
    subst (λ b. asked (s.condition c.args.item) ≡ Some (request_of (side_of b) action)) (sym c.on_host.ensures)
    (asks p s c.args.item c.args.self.now control action at
    (held (goal.at.returns-in_ok-action-in-Some-Opened c).In-Some-Opened)
    (λ (stopped : IsStopped control). subst (IsNext control) c.in_ok-action-in-Some-Opened.was (c.next.ensures stopped)) may)

pub returns-in_err-action-in-Some-Opened : goal.returns-in_err-action-in-Some-Opened
returns-in_err-action-in-Some-Opened c p s at may = rw c.from_residual.ensures tt
