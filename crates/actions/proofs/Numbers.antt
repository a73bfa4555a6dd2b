-- Numbers of scalars, of which those past the last are 0.
use Rattle.std.proofs.Common.{◌≡◌, ℕ, zero, suc, ◌+◌, ◌<◌, ◌≤◌, List, [], ◌∷◌, ◌++◌, length, replicate, refl, ap, ◌∙◌, arith, slice_index, true, false, Bool, ◌==◌, take_all}
use Rattle.std.specs.Prelude.{take}
use Rattle.std.specs.List.{slice_set}
use Rattle.std.proofs.lemmas.List.{get_or-set_other}
use Rattle.std.proofs.lemmas.Grind.{get_or-set_at}
use Rattle.base.specs.Meaning.{set_scalar}
use Rattle.actions.proofs.TrimmedScalars.{zero_at}
use mathlib.Core.Path.{fun_ext}

-- a scalar has a number
pub set_is : (xs : List ℕ) (x n : ℕ) → x < length xs → slice_index (slice_set xs x n) ≡ set_scalar x n (slice_index xs)
set_is xs x n inside = λ i y. at y (x == y) refl i
  where
    at : (y : ℕ) (b : Bool) → (x == y) ≡ b → slice_index (slice_set xs x n) y ≡ set_scalar x n (slice_index xs) y
    at y true is = grind (arith, get_or-set_at xs x y n 0, is, inside)
    at y false is = grind (arith, get_or-set_other xs x y n 0, is, inside)

padded : (xs : List ℕ) (n k : ℕ) → slice_index (xs ++ replicate n 0) k ≡ slice_index xs k
padded [] n k = zero_at n k
padded (x ∷ xs) n zero = refl
padded (x ∷ xs) n (suc k) = padded xs n k

-- with zeros behind the numbers are the same
pub grown : (xs : List ℕ) (n m : ℕ) → length xs ≤ n → slice_index (take n xs ++ replicate m 0) ≡ slice_index xs
grown xs n m le = fun_ext (λ (k : ℕ). padded (take n xs) m k ∙ ap (λ ys. slice_index ys k) (take_all n xs le))

pub set_grown : (xs : List ℕ) (m x n : ℕ) → length xs ≤ x → x < length (take (x + 1) xs ++ replicate m 0) →
    slice_index (slice_set (take (x + 1) xs ++ replicate m 0) x n) ≡ set_scalar x n (slice_index xs)
set_grown xs m x n few inside =
    set_is (take (x + 1) xs ++ replicate m 0) x n inside
    ∙ ap (set_scalar x n) (grown xs (x + 1) m (omega (arith, few)))
