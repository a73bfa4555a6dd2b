-- The first element that passes a test, after an edit of the list.
use Rattle.std.proofs.Common.{◌≡◌, ◌≢◌, ◌⊎◌, ℕ, zero, suc, ◌<◌, Bool, true, false, List, [], ◌∷◌, length, Some, None, refl, sym, ap, ◌∙◌, inl, inr, arith}
use Rattle.std.specs.Prelude.{slice_get, slice_set, find, insert, remove, if◌then◌else◌}
use Rattle.std.proofs.lemmas.Bool.{cases_Bool, cond-true, cond-false}

module _ {A : Type 0} (p : A → Bool) where
  pub find_yes : (x : A) (xs : List A) → p x ≡ true → find p (x ∷ xs) ≡ Some x
  find_yes x xs h = cond-true (p x) _ _ h

  pub find_no : (x : A) (xs : List A) → p x ≡ false → find p (x ∷ xs) ≡ find p xs
  find_no x xs h = cond-false (p x) _ _ h

  -- the element at a place, where none before it passes
  pub find_at : (xs : List A) (n : ℕ) (y : A) → slice_get xs n ≡ Some y →
      ((k : ℕ) (x : A) → k < n → slice_get xs k ≡ Some x → p x ≡ false) → p y ≡ true → find p xs ≡ Some y
  find_at [] n y e h t = absurd cc
  find_at (x ∷ xs) zero y e h t = let is : x ≡ y = cc in cond-true (p x) _ _ (ap p is ∙ t) ∙ e
  find_at (x ∷ xs) (suc n) y e h t =
      cond-false (p x) _ _ (h zero x (omega arith) refl)
      ∙ find_at xs n y e (λ k z l i. h (suc k) z (omega arith) i) t

  pub find_none : (xs : List A) → ((k : ℕ) (x : A) → slice_get xs k ≡ Some x → p x ≡ false) → find p xs ≡ None
  find_none [] h = refl
  find_none (x ∷ xs) h = cond-false (p x) _ _ (h zero x refl) ∙ find_none xs (λ k z i. h (suc k) z i)

  pub find_insert_new : (xs : List A) (n : ℕ) (y : A) → find p xs ≡ None → p y ≡ true →
      find p (insert xs n y) ≡ Some y
  find_insert_new xs zero y e t = cond-true (p y) _ _ t
  find_insert_new [] (suc n) y e t = cond-true (p y) _ _ t
  find_insert_new (x ∷ xs) (suc n) y e t = go (λ f. find_insert_new xs n y f t) (cases_Bool (p x))
    where
      go : (find p xs ≡ None → find p (insert xs n y) ≡ Some y) → (p x ≡ true) ⊎ (p x ≡ false) →
          find p (insert (x ∷ xs) (suc n) y) ≡ Some y
      go again (inl h) = absurd (cc (sym (cond-true (p x) (Some x) (find p xs) h) ∙ e))
      go again (inr h) = cond-false (p x) _ _ h ∙ again (sym (cond-false (p x) (Some x) (find p xs) h) ∙ e)

  pub find_insert_old : (xs : List A) (n : ℕ) (y : A) → p y ≡ false → find p (insert xs n y) ≡ find p xs
  find_insert_old xs zero y t = cond-false (p y) _ _ t
  find_insert_old [] (suc n) y t = cond-false (p y) _ _ t
  find_insert_old (x ∷ xs) (suc n) y t = ap (λ o. if p x then Some x else o) (find_insert_old xs n y t)

  pub find_set_new : (xs : List A) (n : ℕ) (y : A) → n < length xs →
      ((k : ℕ) (x : A) → k < n → slice_get xs k ≡ Some x → p x ≡ false) → p y ≡ true →
      find p (slice_set xs n y) ≡ Some y
  find_set_new [] n y l h t = absurd (omega arith)
  find_set_new (x ∷ xs) zero y l h t = cond-true (p y) _ _ t
  find_set_new (x ∷ xs) (suc n) y l h t =
      cond-false (p x) _ _ (h zero x (omega arith) refl)
      ∙ find_set_new xs n y (omega arith) (λ k z m i. h (suc k) z (omega arith) i) t

  pub find_set_old : (xs : List A) (n : ℕ) (x y : A) → slice_get xs n ≡ Some x → p x ≡ false → p y ≡ false →
      find p (slice_set xs n y) ≡ find p xs
  find_set_old [] n x y e h t = refl
  find_set_old (z ∷ xs) zero x y e h t =
      let is : z ≡ x = cc in
      cond-false (p y) _ _ t ∙ sym (cond-false (p z) _ _ (ap p is ∙ h))
  find_set_old (z ∷ xs) (suc n) x y e h t = ap (λ o. if p z then Some z else o) (find_set_old xs n x y e h t)

  pub find_remove_new : (xs : List A) (n : ℕ) →
      ((k : ℕ) (x : A) → k ≢ n → slice_get xs k ≡ Some x → p x ≡ false) → find p (remove xs n) ≡ None
  find_remove_new [] zero h = refl
  find_remove_new [] (suc n) h = refl
  find_remove_new (x ∷ xs) zero h = find_none xs (λ k z i. h (suc k) z (λ e. omega arith) i)
  find_remove_new (x ∷ xs) (suc n) h =
      cond-false (p x) _ _ (h zero x (λ e. omega arith) refl)
      ∙ find_remove_new xs n (λ k z m i. h (suc k) z (λ e. m (omega arith)) i)

  pub find_remove_old : (xs : List A) (n : ℕ) (x : A) → slice_get xs n ≡ Some x → p x ≡ false →
      find p (remove xs n) ≡ find p xs
  find_remove_old [] n x e h = absurd cc
  find_remove_old (z ∷ xs) zero x e h = let is : z ≡ x = cc in sym (cond-false (p z) _ _ (ap p is ∙ h))
  find_remove_old (z ∷ xs) (suc n) x e h = ap (λ o. if p z then Some z else o) (find_remove_old xs n x e h)
