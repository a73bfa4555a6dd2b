-- The bits of a word.
use Rattle.std.proofs.Common.{◌≡◌, ℕ, ◌<◌, ◌-◌, ◌^◌, min, max, ap, ◌∙◌, w64, bit_and, bit_or, arith}
use Rattle.std.specs.Prelude.{not, ◌&&◌, ◌||◌, ◌==◌}
use Rattle.std.specs.Int.{bit_at, bit_not}
use Rattle.std.proofs.lemmas.Bool.Decides.{nat_tests}
use Rattle.std.proofs.lemmas.Nat.Bits.{bit_at_and, bit_at_or, bit_at_not, bit_at-lt}

one_of_two : (a b : ℕ) → a < 2 → b < 2 → (max a b == 1) ≡ ((a == 1) || (b == 1))
one_of_two a b p q = grind (arith, nat_tests)

both_of_two : (a b : ℕ) → a < 2 → b < 2 → (min a b == 1) ≡ ((a == 1) && (b == 1))
both_of_two a b p q = grind (arith, nat_tests)

first_alone : (a b : ℕ) → a < 2 → b < 2 → (min a (1 - b) == 1) ≡ (not (b == 1) && (a == 1))
first_alone a b p q = grind (arith, nat_tests)

-- the bits of two words together
pub bits_or : (a b k : ℕ) → (bit_at (bit_or a b) k == 1) ≡ ((bit_at a k == 1) || (bit_at b k == 1))
bits_or a b k = ap (λ n. n == 1) (bit_at_or a b k) ∙ one_of_two (bit_at a k) (bit_at b k) (bit_at-lt a k) (bit_at-lt b k)

-- the bits that two words have in common
pub bits_and : (a b k : ℕ) → (bit_at (bit_and a b) k == 1) ≡ ((bit_at a k == 1) && (bit_at b k == 1))
bits_and a b k = ap (λ n. n == 1) (bit_at_and a b k) ∙ both_of_two (bit_at a k) (bit_at b k) (bit_at-lt a k) (bit_at-lt b k)

-- the bits of a word that another has not
pub bits_minus : (a b k : ℕ) → b < 2 ^ 64 → k < 64 →
    (bit_at (bit_and a (bit_not w64 b)) k == 1) ≡ (not (bit_at b k == 1) && (bit_at a k == 1))
bits_minus a b k fits low =
    ap (λ n. n == 1) (bit_at_and a (bit_not w64 b) k ∙ ap (min (bit_at a k)) (bit_at_not w64 b k fits low))
    ∙ first_alone (bit_at a k) (bit_at b k) (bit_at-lt a k) (bit_at-lt b k)
