-- Lists of numbers that agree at every place, where a number past the end is 0.
use Rattle.std.proofs.Common.{◌≡◌, ℕ, zero, suc, ◌+◌, ◌<◌, ◌≤◌, List, length, set, replicate, refl, sym, ap, ◌∙◌, arith, ⊎_elim}
use Rattle.std.specs.Prelude.{slice_index}
use Rattle.std.proofs.lemmas.Bool.{cases_lt, cases_eq}
use Rattle.std.proofs.lemmas.List.{get_or_past, get_or-set_same, get_or-set_other}
use mathlib.Core.Path.{fun_ext}

-- a list of zeros has taken the first numbers of another one
pub record HasFirst (all xs : List ℕ) (n : ℕ) : Type 0 where
  pub taken : (k : ℕ) → k < n → slice_index all k ≡ slice_index xs k
  pub zeros : (k : ℕ) → n ≤ k → slice_index all k ≡ 0

pub one_more : (all xs : List ℕ) (n : ℕ) → n < length all → HasFirst all xs n →
    HasFirst (set all n (slice_index xs n)) xs (n + 1)
one_more all xs n lt h = record {
  taken = λ k low. ⊎_elim
      (λ e. ap (λ j. slice_index (set all n (slice_index xs n)) j) e ∙ get_or-set_same all n (slice_index xs n) 0 lt
      ∙ sym (ap (slice_index xs) e))
      (λ ne. get_or-set_other all n k (slice_index xs n) 0 ne ∙ h.taken k (omega (arith, low, ne))) (cases_eq k n);
  zeros = λ k high. get_or-set_other all n k (slice_index xs n) 0 (λ e. omega (arith, e, high)) ∙ h.zeros k (omega (arith, high));
}

pub has_all : (all xs : List ℕ) (n : ℕ) → length xs ≤ n → HasFirst all xs n → slice_index all ≡ slice_index xs
has_all all xs n le h = fun_ext (λ (k : ℕ). ⊎_elim (λ lt. h.taken k lt)
    (λ ge. h.zeros k ge ∙ sym (get_or_past xs k 0 (omega (arith, le, ge)))) (cases_lt k n))

pub zero_at : (n k : ℕ) → slice_index (replicate n 0) k ≡ 0
zero_at zero k = refl
zero_at (suc n) zero = refl
zero_at (suc n) (suc k) = zero_at n k
