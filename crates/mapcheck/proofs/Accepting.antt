-- A plan with no fault is accepted.
use Rattle.std.proofs.Common.{Some, ⊎_elim}
use Rattle.base.specs.declared.fault.RefusalCode.TheVariants.{Conflict}
use Rattle.base.specs.Items.{Plan}
use Rattle.base.specs.Order.{Before}
use Rattle.base.specs.Accepted.{Fault, IsAccepted, IsFault, Refused}
use Rattle.mapcheck.proofs.Decided.{before_decided}

pub faultless : (plan : Plan) → ((f : Fault) → IsFault plan f → ⊥) → IsAccepted plan
faultless plan none = record {
  sound = none;
  ordered = λ i j c lt conflict. ⊎_elim (λ (b : Before plan i j). b)
      (λ (not_before : Before plan i j → ⊥).
      absurd (none (Refused (record { code = Conflict; item = j; cell = c; other = Some i })) (lt, conflict, not_before)))
      (before_decided plan i j);
}
