-- The values of the loops around the innermost one.
use Rattle.std.proofs.Common.{◌≡◌, ℕ, ◌-◌, List, [], ◌∷◌, ◌++◌, length, ap, ◌∙◌, arith, length-append, take_at, refl}
use Rattle.std.specs.Prelude.{take}
use Rattle.actions.specs.Rest.{front_of}

length_more : (xs : List ℕ) (v : ℕ) → length (xs ++ v ∷ []) - 1 ≡ length xs
length_more xs v = omega (arith, length-append xs (v ∷ []))

pub front_more : (xs : List ℕ) (v : ℕ) → front_of (xs ++ v ∷ []) ≡ xs
front_more xs v = ap (λ n. take n (xs ++ v ∷ [])) (length_more xs v) ∙ take_at xs (v ∷ []) (length xs) refl
