-- Rows of marks and of numbers that are changed one by one.
use Rattle.std.proofs.Common.{◌≡◌, ℕ, ◌+◌, ◌<◌, ◌≤◌, Bool, false, List, length, set, refl, sym, ap, ◌∙◌, arith, ⊎_elim, length-set}
use Rattle.std.specs.Prelude.{◌&&◌, slice_index_or}
use Rattle.std.proofs.lemmas.Bool.{cases_eq, cases_lt}
use Rattle.std.proofs.lemmas.List.{get_or-set_same, get_or-set_other, get_or_past}
use Rattle.kernel.specs.Masks.{IsMask, Narrowed}

-- the first of a row became what f makes of their place and of them, and the others are as they were
pub record Changed (A : Type 0) (d : A) (f : ℕ → A → A) (xs ys : List A) (n : ℕ) : Type 0 where
  pub size : length ys ≡ length xs
  pub done : (k : ℕ) → k < n → k < length xs → slice_index_or ys k d ≡ f k (slice_index_or xs k d)
  pub rest : (k : ℕ) → n ≤ k → slice_index_or ys k d ≡ slice_index_or xs k d

pub one_more : (A : Type 0) (d : A) (f : ℕ → A → A) (xs ys : List A) (n : ℕ) (v : A) → n < length ys → Changed A d f xs ys n →
    v ≡ f n (slice_index_or ys n d) → Changed A d f xs (set ys n v) (n + 1)
one_more A d f xs ys n v fits h is =
    record {
      size = length-set ys n v ∙ h.size;
      done = λ k low lt. ⊎_elim
          (λ e. ap (λ j. slice_index_or (set ys n v) j d) e ∙ get_or-set_same ys n v d fits ∙ is
          ∙ ap (f n) (h.rest n (omega arith)) ∙ sym (ap (λ j. f j (slice_index_or xs j d)) e))
          (λ ne. get_or-set_other ys n k v d ne ∙ h.done k (omega (arith, low, ne)) lt) (cases_eq k n);
      rest = λ k high. get_or-set_other ys n k v d (λ e. omega (arith, e, high)) ∙ h.rest k (omega (arith, high));
    }

pub none_changed : (A : Type 0) (d : A) (f : ℕ → A → A) (xs : List A) → Changed A d f xs xs 0
none_changed A d f xs = record { size = refl; done = λ k low lt. absurd (omega (arith, low)); rest = λ k high. refl }

-- marks that stay where it holds
pub all_narrowed : (holds : ℕ → Bool) (xs ys : List Bool) (n : ℕ) → length ys ≤ n → Changed Bool false (λ k b. b && holds k) xs ys n →
    Narrowed holds xs ys
all_narrowed holds xs ys n le h =
    record { size = h.size; each = λ k lt. let s = h.size in h.done k (omega (arith, lt)) lt }

pub narrowed_mask : (n : ℕ) (part holds : ℕ → Bool) (xs ys : List Bool) → IsMask n part xs → Narrowed holds xs ys →
    IsMask n (λ k. part k && holds k) ys
narrowed_mask n part holds xs ys m h =
    let s = m.size in
    record {
      size = h.size ∙ m.size;
      each = λ k lt. h.each k (omega (arith, lt)) ∙ ap (λ b. b && holds k) (m.each k lt);
    }

-- no mark is set
abbrev pub NoMark : List Bool → ℕ → Type 0
NoMark xs n = (k : ℕ) → k < n → slice_index_or xs k false ≡ false

pub no_mark_more : (xs : List Bool) (n : ℕ) → NoMark xs n → slice_index_or xs n false ≡ false → NoMark xs (n + 1)
no_mark_more xs n h e k lt =
    ⊎_elim (λ same. ap (λ j. slice_index_or xs j false) same ∙ e) (λ ne. h k (omega (arith, lt, ne))) (cases_eq k n)

pub no_mark : (xs : List Bool) (n : ℕ) → length xs ≤ n → NoMark xs n → (k : ℕ) → slice_index_or xs k false ≡ false
no_mark xs n le h k =
    ⊎_elim (λ lt. h k lt) (λ ge. get_or_past xs k false (omega (arith, ge, le))) (cases_lt k n)
