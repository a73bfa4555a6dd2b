-- A row of numbers that a loop goes over.
use Rattle.std.proofs.Common.{◌≡◌, ℕ, ◌+◌, ◌<◌, ◌≤◌, List, length, set, sym, ap, ◌∙◌, arith, ⊎_elim, length-set}
use Rattle.std.specs.Prelude.{slice_index}
use Rattle.std.proofs.lemmas.Bool.{cases_eq}
use Rattle.std.proofs.lemmas.List.{get_or-set_same, get_or-set_other}
use Rattle.lanes.specs.Numbers.{Became}

-- the first numbers are done, and the others are as they were
pub record Done (f : ℕ → ℕ → ℕ) (xs ys : List ℕ) (n : ℕ) : Type 0 where
  pub size : length ys ≡ length xs
  pub done : (k : ℕ) → k < n → slice_index ys k ≡ f k (slice_index xs k)
  pub rest : (k : ℕ) → n ≤ k → slice_index ys k ≡ slice_index xs k

pub one_more : (f : ℕ → ℕ → ℕ) (xs ys : List ℕ) (n v : ℕ) → n < length ys → Done f xs ys n → v ≡ f n (slice_index ys n) →
    Done f xs (set ys n v) (n + 1)
one_more f xs ys n v lt h is =
    record {
      size = length-set ys n v ∙ h.size;
      done = λ k low. ⊎_elim
          (λ e. ap (slice_index (set ys n v)) e ∙ get_or-set_same ys n v 0 lt ∙ is
          ∙ ap (f n) (h.rest n (omega arith)) ∙ sym (ap (λ j. f j (slice_index xs j)) e))
          (λ ne. get_or-set_other ys n k v 0 ne ∙ h.done k (omega (arith, low, ne))) (cases_eq k n);
      rest = λ k high. get_or-set_other ys n k v 0 (λ e. omega (arith, e, high)) ∙ h.rest k (omega (arith, high));
    }

pub all_done : (f : ℕ → ℕ → ℕ) (xs ys : List ℕ) (n : ℕ) → length ys ≤ n → Done f xs ys n → Became f xs ys
all_done f xs ys n le h = record { size = h.size; each = λ k lt. let s = h.size in h.done k (omega (arith, lt)) }
