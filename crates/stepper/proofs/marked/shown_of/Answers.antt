use Rattle.std.proofs.Common.{sym, subst}
use Rattle.base.specs.Items.{plan}
use Rattle.mapcheck.specs.Passes.{IsCheckFault}
use Rattle.mapcheck.specs.Third.{AreMarked}
use Rattle.stepper.specs.Answering.{AreShown}
use Rattle.stepper.proofs.Shown.{shown_accepted, shown_order, shown_refused}
use Rattle.stepper.proofs.marked.shown_of.Goals as goal

pub returns-in-Ok-from_slice-clause-shown : goal.returns-in-Ok-from_slice-clause-shown
returns-in-Ok-from_slice-clause-shown c =
    subst (λ p. AreShown p c.in-Ok-from_slice.arrays.items) c.in-Ok.ensures.accepted
    (shown_accepted c.in-Ok.accepted _ c.is_accepted.ensures.accepted
    (subst (AreMarked (plan c.in-Ok.accepted)) (sym c.in-Ok-from_slice.ensures.items) c.current.ensures))

pub returns-in-Err-Order-clause-shown : goal.returns-in-Err-Order-clause-shown
returns-in-Err-Order-clause-shown c =
    subst (λ xs. AreShown c.args.outlined.now xs) (sym c.new.ensures.items)
    (shown_order c.args.outlined.now c.in-Err-Order.field-0-0 (subst (IsCheckFault (plan c.args.outlined.now)) c.in-Err-Order.field-0-is c.in-Err-Order.ensures.fault))

pub returns-clause-shown : goal.returns-clause-shown
returns-clause-shown c =
    subst (λ xs. AreShown c.args.outlined.now xs) (sym c.new-in-Err-Refused.ensures.items)
    (shown_refused c.args.outlined.now c.in-Err-Refused.field-0-0 (subst (IsCheckFault (plan c.args.outlined.now)) c.in-Err-Refused.field-0-is c.in-Err-Refused.ensures.fault))
