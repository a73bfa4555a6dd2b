-- Lists of which each element and the next are in a transitive relation.
use Rattle.std.proofs.Common.{◌≡◌, ℕ, ◌+◌, ◌-◌, ◌<◌, ◌≤◌, Bool, true, false, zero, suc, List, length, get_or, sym, subst, arith}
use Rattle.std.specs.List.{IsAllAdjacentAnswer, AllAdjacentBelow}

module _ {X : Type 0} (R : X → X → Bool) (same : (x : X) → R x x ≡ true)
    (joined : (x y z : X) → R x y ≡ true → R y z ≡ true → R x z ≡ true) where
  far : (xs : List X) (i k : ℕ) (d : X) → AllAdjacentBelow (λ x y. true ≡ R x y) xs (length xs) → i + k < length xs →
      R (get_or xs i d) (get_or xs (i + k) d) ≡ true
  far xs i zero d h lt =
      subst (λ n. R (get_or xs i d) (get_or xs n d) ≡ true) {x = i} {y = i + 0} (omega arith) (same (get_or xs i d))
  far xs i (suc k) d h lt =
      joined (get_or xs i d) (get_or xs (i + k) d) (get_or xs (i + suc k) d) (far xs i k d h (omega (arith, lt)))
      (subst (λ n. R (get_or xs (i + k) d) (get_or xs n d) ≡ true) {x = (i + k) + 1} {y = i + suc k} (omega arith)
      (sym (h (i + k) d (omega (arith, lt)))))

  -- by what `is_sorted_by` answers
  pub all_pairs : (xs : List X) (r : Bool) → IsAllAdjacentAnswer (λ x y b. b ≡ R x y) xs r → r ≡ true → (i j : ℕ) (d : X) →
      i ≤ j → j < length xs → R (get_or xs i d) (get_or xs j d) ≡ true
  all_pairs xs true h e i j d le lt =
      subst (λ n. R (get_or xs i d) (get_or xs n d) ≡ true) {x = i + (j - i)} {y = j} (omega (arith, le))
      (far xs i (j - i) d h (omega (arith, le, lt)))
  all_pairs xs false h e i j d le lt = cc
