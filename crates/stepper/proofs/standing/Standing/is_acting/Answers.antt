use Rattle.std.proofs.Common.{◌≡◌, true, false, Option, Some, None, is_some, sym, ap, ◌∙◌, subst, slice_get}
use Rattle.std.proofs.lemmas.Bool.{false≢true, ltb-true}
use Rattle.std.proofs.lemmas.Option.{slice_get-get_or, slice_get_past}
use Rattle.actions.specs.Control.{IsNext, IsStopped}
use Rattle.stepper.specs.Standing.{IsActing, IsAtRest}
use Rattle.actions.specs.declared.action.Action.{Action}
use Rattle.actions.specs.declared.control.Control.{Control}
use Rattle.stepper.specs.declared.standing.Slot.{Slot}
use Rattle.stepper.specs.declared.standing.Slot.TheVariants as slot
use Rattle.stepper.proofs.standing.Standing.is_acting.Goals.{In-Some-Opened}
use Rattle.stepper.proofs.standing.Standing.is_acting.Goals as goal

acting_from : (control : Control) (o : Option Action) → is_some o ≡ true → (IsStopped control → IsNext control o) →
    IsActing (Some (slot.Opened control))
acting_from control (Some a) e next stopped = (a, next stopped)
acting_from control None e next stopped = absurd (false≢true e)

rest_from : (control : Control) (o : Option Action) → is_some o ≡ false → (IsStopped control → IsNext control o) →
    IsAtRest (Some (slot.Opened control))
rest_from control (Some a) e next stopped = absurd (false≢true (sym e))
rest_from control None e next stopped = next stopped

held : (c : In-Some-Opened) →
    slice_get c.args.self.now.slots.items c.args.item ≡ Some (slot.Opened c.in-Some-Opened.control)
held c =
    let there = c.in-Some-Opened.ensures.lookup in
    ap (λ xs. slice_get xs c.args.item) (sym c.deref.ensures.value)
    ∙ slice_get-get_or c.deref.result.now c.args.item c.in-Some-Opened.field-0.now
    (ltb-true c.args.item _ (sym there.0))
    ∙ ap (λ (s : Slot). Some s) (sym there.1 ∙ c.in-Some-Opened.field-0-is)

pub returns-in-Some-Opened-clause-acting : goal.returns-in-Some-Opened-clause-acting
returns-in-Some-Opened-clause-acting c e =
    subst IsActing (sym (held (goal.at.returns-in-Some-Opened-clause-acting c).In-Some-Opened))
    (acting_from c.in-Some-Opened.control c.next.result (sym c.is_some.ensures ∙ e) c.next.ensures)

pub returns-in-Some-Opened-clause-rest : goal.returns-in-Some-Opened-clause-rest
returns-in-Some-Opened-clause-rest c e =
    subst IsAtRest (sym (held (goal.at.returns-in-Some-Opened-clause-rest c).In-Some-Opened))
    (rest_from c.in-Some-Opened.control c.next.result (sym c.is_some.ensures ∙ e) c.next.ensures)

pub returns-in-Some-Nothing-clause-rest : goal.returns-in-Some-Nothing-clause-rest
returns-in-Some-Nothing-clause-rest c e =
    let there = c.in-Some-Nothing.ensures.lookup in
    let none : slice_get c.args.self.now.slots.items c.args.item ≡ Some slot.Nothing =
    ap (λ xs. slice_get xs c.args.item) (sym c.deref.ensures.value)
    ∙ slice_get-get_or c.deref.result.now c.args.item c.in-Some-Nothing.field-0.now
    (ltb-true c.args.item _ (sym there.0))
    ∙ ap (λ (s : Slot). Some s) (sym there.1 ∙ c.in-Some-Nothing.field-0-is) in
    subst IsAtRest (sym none) tt

pub returns-in-None-clause-rest : goal.returns-in-None-clause-rest
returns-in-None-clause-rest c e =
    let past : slice_get c.args.self.now.slots.items c.args.item ≡ None =
    ap (λ xs. slice_get xs c.args.item) (sym c.deref.ensures.value)
    ∙ slice_get_past c.deref.result.now c.args.item c.in-None.ensures.lookup.3 in
    subst IsAtRest (sym past) tt
