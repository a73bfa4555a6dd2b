-- What may happen in a run, as the trait says it and as the code knows it.
use Rattle.std.proofs.Common.{◌≡◌, Bool, false, sym, ◌∙◌, subst}
use Rattle.std.specs.Prelude.{IsTrue}
use Rattle.base.specs.declared.item.Event.{Event}
use Rattle.base.specs.Items.{Plan, plan}
use Rattle.fine_headline.specs.FineState.{MayDo, event_of}
use Rattle.fine_machine.specs.Machine.{enabled}
use Rattle.machine.specs.Board.{Move}
use Rattle.stepper.specs.Leading.{same_plan}
use Rattle.stepper.specs.Run.{IsGoing, Run, fine_of, state_of}

-- what the trait says of an enabled event, where the code knows it of the run
pub may_do : (r : Run) (m : Move) (b : Bool) → (IsTrue b → IsGoing r) → (IsGoing r → (fine_of r).failed ≡ false) →
    (IsGoing r → b ≡ enabled (plan r.program) (state_of r) (event_of (plan r.program) m)) →
    (IsTrue b → IsGoing r × MayDo (fine_of r) m) × (IsGoing r × MayDo (fine_of r) m → IsTrue b)
may_do r m b goes sound is = (
  λ h. (
    goes h,
    record {
      sound = sound (goes h);
      enabled =
          subst (λ (p : Plan). IsTrue (enabled p (state_of r) (event_of p m))) (sym (same_plan r)) (sym (is (goes h)) ∙ h);
    },
  ),
  λ d. is d.0 ∙ subst (λ (p : Plan). IsTrue (enabled p (state_of r) (event_of p m))) (same_plan r) d.1.enabled,
)

pub may_happen : (r : Run) (m : Move) (e : Event) → MayDo (fine_of r) m → e ≡ event_of (plan r.program) m →
    IsTrue (enabled (plan r.program) (state_of r) e)
may_happen r m e d is =
    subst (λ (f : Event). IsTrue (enabled (plan r.program) (state_of r) f)) (sym is)
    (subst (λ (p : Plan). IsTrue (enabled p (state_of r) (event_of p m))) (same_plan r) d.enabled)
