-- A number carried on over a row.
use Rattle.std.proofs.Common.{◌≡◌, ℕ, suc, ◌+◌, ◌-◌, ◌<◌, ◌≤◌, List, length, sym, ap, ◌∙◌, arith}
use Rattle.std.specs.Prelude.{slice_index}
use Rattle.lanes.specs.Sums.{folded}

-- what the numbers from a place on make of one is what all make of the first
pub record Halfway (f : ℕ → ℕ → ℕ) (s : List ℕ) (first n a : ℕ) : Type 0 where
  pub rest : folded f (slice_index s) a (length s - n) n ≡ folded f (slice_index s) first (length s) 0

pub one_more : (f : ℕ → ℕ → ℕ) (s : List ℕ) (first n a b : ℕ) → n < length s → Halfway f s first n a →
    b ≡ f a (slice_index s n) → Halfway f s first (n + 1) b
one_more f s first n a b lt h is =
    let more : length s - n ≡ suc (length s - (n + 1)) = omega (arith, lt) in
    record {
      rest =
          ap (λ m. folded f (slice_index s) m (length s - (n + 1)) (n + 1)) is
          ∙ sym (ap (λ k. folded f (slice_index s) a k n) more) ∙ h.rest;
    }

pub all_done : (f : ℕ → ℕ → ℕ) (s : List ℕ) (first n a : ℕ) → length s ≤ n → Halfway f s first n a →
    a ≡ folded f (slice_index s) first (length s) 0
all_done f s first n a le h =
    let none : length s - n ≡ 0 = omega (arith, le) in
    sym (ap (λ k. folded f (slice_index s) a k n) none) ∙ h.rest
