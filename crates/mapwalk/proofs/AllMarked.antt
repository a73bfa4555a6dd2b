-- Whether all of the first numbers pass a test.
use Rattle.std.proofs.Common.{◌≡◌, ℕ, zero, suc, ◌+◌, ◌<◌, ◌≤◌, Bool, true, false, refl, sym, ap, ◌∙◌, arith, ⊎_elim}
use Rattle.std.specs.Prelude.{◌↔◌, IsTrue}
use Rattle.std.specs.List.{list_all, range_with_len}
use Rattle.std.proofs.lemmas.Bool.{and_from, and_parts, cases_lt, true≢false}

all_from : (p : ℕ → Bool) (a n : ℕ) → ((j : ℕ) → a ≤ j → j < a + n → p j ≡ true) → list_all p (range_with_len a n) ≡ true
all_from p a zero h = refl
all_from p a (suc n) h =
    and_from (p a) (list_all p (range_with_len (a + 1) n)) (h a (omega arith) (omega arith))
    (all_from p (a + 1) n (λ j x y. h j (omega arith) (omega arith)))

each_of : (p : ℕ → Bool) (a n : ℕ) → list_all p (range_with_len a n) ≡ true → (j : ℕ) → a ≤ j → j < a + n → p j ≡ true
each_of p a zero e j x y = absurd (omega arith)
each_of p a (suc n) e j x y =
    let (first, rest) = and_parts (p a) (list_all p (range_with_len (a + 1) n)) e in
    ⊎_elim (λ (lt : a < j). each_of p (a + 1) n rest j (omega arith) (omega arith))
    (λ (le : j ≤ a). let same : j ≡ a = omega arith in ap p same ∙ first) (cases_lt a j)

pub all_or_not : (p : ℕ → Bool) (n : ℕ) (result : Bool) → IsTrue result ↔ ((i : ℕ) → i < n → p i ≡ true) →
    result ≡ list_all p (range_with_len 0 n)
all_or_not p n result both = go result refl (list_all p (range_with_len 0 n)) refl
  where
    go : (r : Bool) → result ≡ r → (l : Bool) → list_all p (range_with_len 0 n) ≡ l → result ≡ list_all p (range_with_len 0 n)
    go true e l h = e ∙ sym (all_from p 0 n (λ j x y. both.0 e j (omega arith)))
    go false e true h = absurd (true≢false (sym (both.1 (λ i lt. each_of p 0 n h i (omega arith) (omega arith))) ∙ e))
    go false e false h = e ∙ sym h
