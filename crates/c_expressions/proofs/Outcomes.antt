-- What came of reading, from a token before.
use Rattle.std.proofs.Common.{◌≡◌, Option, sym, subst}
use Rattle.std.specs.Prelude.{Result, Ok, Err, IfErr}
use Rattle.base.specs.declared.fault.TextFault.{TextFault}
use Rattle.c_expressions.specs.declared.fault.ReadError.{ReadError}
use Rattle.c_expressions.specs.declared.fault.ReadError.TheVariants as errors
use Rattle.c_expressions.specs.Reading.{Failed, Outcome, OutcomeBy}

pub on_from : {X : Type 0} (r : Result X ReadError) (a b z : Option TextFault) → a ≡ b → Outcome r b z → Outcome r a z
on_from r a b z e h = subst (λ (x : Option TextFault). Outcome r x z) (sym e) h

pub failed_from : (e : ReadError) (a b : Option TextFault) → a ≡ b → Failed e b → Failed e a
failed_from e a b p h = subst (λ (x : Option TextFault). Failed e x) (sym p) h

pub on_from_by : {X : Type 0} (r : Result X ReadError) (a b : Option TextFault) (z : X → Option TextFault) →
    a ≡ b → OutcomeBy r b z → OutcomeBy r a z
on_from_by r a b z e h = subst (λ (x : Option TextFault). OutcomeBy r x z) (sym e) h

-- a step that only memory can fail
pub on_memory : {X : Type 0} (r : Result X ReadError) (a z : Option TextFault) → a ≡ z →
    IfErr r (λ e. e ≡ errors.Memory) → Outcome r a z
on_memory (Ok x) a z e h = e
on_memory (Err errors.Memory) a z e h = tt
on_memory (Err (errors.Fault f)) a z e h = absurd cc
