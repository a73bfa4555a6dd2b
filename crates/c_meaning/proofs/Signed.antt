-- A result that passes 64 bits passes each signed type.
use Rattle.std.proofs.Common.{◌≡◌, ℕ, ◌<◌, ◌^◌, arith, Some, None, ℤ, pos, negsuc, FitsSigned}
use Rattle.std.specs.Int.{w64}
use Rattle.std.proofs.lemmas.Bool.{lt-leb, cond-false}
use Rattle.c_meaning.specs.declared.shape.CType.{CType}
use Rattle.c_meaning.specs.declared.shape.CType.TheVariants.{Int, Long, Unsigned}
use Rattle.c_meaning.specs.Types.{greatest, in_signed}
use Rattle.c_meaning.specs.Constants.{IsSigned, signed_value}

wide : (t : CType) (n : ℕ) → IsSigned t → (n < 2 ^ 63 → ⊥) → greatest t < n
wide Int n s h = omega arith
wide Long n s h = omega arith
wide Unsigned n s h = absurd s

pub passes_both : (t : CType) (z : ℤ) → IsSigned t → (FitsSigned w64 z → ⊥) → in_signed t z ≡ None
passes_both t (pos n) s h =
    cond-false _ (Some (signed_value t (pos n))) None
    (lt-leb n (greatest t) (wide t n s (λ l. h (record { sfits = l }))))
passes_both t (negsuc n) s h =
    cond-false _ (Some (signed_value t (negsuc n))) None
    (lt-leb n (greatest t) (wide t n s (λ l. h (record { sfits = l }))))
