-- What came of reading, from a token before.
use Rattle.std.proofs.Common.{◌≡◌, Option, sym, subst}
use Rattle.std.specs.Prelude.{Result}
use Rattle.directives.specs.declared.fault.LineFault.{LineFault}
use Rattle.directives.specs.declared.fault.DirectiveFault.{DirectiveFault}
use Rattle.directives.specs.Reading.{Failed, Outcome, OutcomeBy}

pub on_from : {X : Type 0} (r : Result X DirectiveFault) (a b z : Option LineFault) → a ≡ b → Outcome r b z →
    Outcome r a z
on_from r a b z e h = subst (λ (x : Option LineFault). Outcome r x z) (sym e) h

pub failed_from : (e : DirectiveFault) (a b : Option LineFault) → a ≡ b → Failed e b → Failed e a
failed_from e a b p h = subst (λ (x : Option LineFault). Failed e x) (sym p) h

pub on_from_by : {X : Type 0} (r : Result X DirectiveFault) (a b : Option LineFault) (z : X → Option LineFault) → a ≡
    b →
    OutcomeBy r b z → OutcomeBy r a z
on_from_by r a b z e h = subst (λ (x : Option LineFault). OutcomeBy r x z) (sym e) h
