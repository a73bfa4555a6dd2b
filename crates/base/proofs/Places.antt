-- What stands at a place of a list that is put together from parts.
use Rattle.std.proofs.Common.{◌≡◌, ◌≢◌, ℕ, zero, suc, ◌+◌, ◌-◌, ◌<◌, ◌≤◌, List, [], ◌∷◌, ◌++◌, length, take, drop, Some, refl, ap, ◌∙◌, arith, length-take-le}
use Rattle.std.specs.Prelude.{slice_get, slice_set}
use Rattle.std.proofs.lemmas.Grind.{common_steps}
use Rattle.base.specs.Arrays.{overwritten}

pub get_left : {X : Type 0} (xs ys : List X) (k : ℕ) → k < length xs → slice_get (xs ++ ys) k ≡ slice_get xs k
get_left [] ys k h = absurd (omega arith)
get_left (x ∷ xs) ys zero h = refl
get_left (x ∷ xs) ys (suc k) h = get_left xs ys k (omega arith)

pub get_right : {X : Type 0} (xs ys : List X) (k : ℕ) → length xs ≤ k → slice_get (xs ++ ys) k ≡ slice_get ys (k - length xs)
get_right {X = X} [] ys k h = let e : k ≡ k - length {A = X} [] = omega arith in ap (slice_get ys) e
get_right (x ∷ xs) ys zero h = absurd (omega arith)
get_right (x ∷ xs) ys (suc k) h =
    let e : k - length xs ≡ suc k - length (x ∷ xs) = omega arith in
    get_right xs ys k (omega arith) ∙ ap (slice_get ys) e

pub get_take : {X : Type 0} (n : ℕ) (xs : List X) (k : ℕ) → k < n → slice_get (take n xs) k ≡ slice_get xs k
get_take zero xs k h = absurd (omega arith)
get_take (suc n) [] k h = refl
get_take (suc n) (x ∷ xs) zero h = refl
get_take (suc n) (x ∷ xs) (suc k) h = get_take n xs k (omega arith)

pub get_drop : {X : Type 0} (n : ℕ) (xs : List X) (k : ℕ) → slice_get (drop n xs) k ≡ slice_get xs (n + k)
get_drop zero xs k = let e : k ≡ 0 + k = omega arith in ap (slice_get xs) e
get_drop (suc n) [] k = refl
get_drop (suc n) (x ∷ xs) k =
    let e : suc (n + k) ≡ suc n + k = omega arith in
    get_drop n xs k ∙ ap (slice_get (x ∷ xs)) e

pub get_set_same : {X : Type 0} (xs : List X) (i : ℕ) (v : X) → i < length xs → slice_get (slice_set xs i v) i ≡ Some v
get_set_same [] i v h = absurd (omega arith)
get_set_same (x ∷ xs) zero v h = refl
get_set_same (x ∷ xs) (suc i) v h = get_set_same xs i v (omega arith)

pub get_set_other : {X : Type 0} (xs : List X) (i : ℕ) (v : X) (j : ℕ) → i ≢ j →
    slice_get (slice_set xs i v) j ≡ slice_get xs j
get_set_other [] i v j h = refl
get_set_other (x ∷ xs) zero v zero h = absurd (h refl)
get_set_other (x ∷ xs) zero v (suc j) h = refl
get_set_other (x ∷ xs) (suc i) v zero h = refl
get_set_other (x ∷ xs) (suc i) v (suc j) h = get_set_other xs i v j (λ e. h (ap suc e))

module _ (xs ys : List ℕ) (a : ℕ) (fits : a + length ys ≤ length xs) where
  -- below what was written over
  pub overwritten_before : (k : ℕ) → k < a → slice_get (overwritten xs a ys) k ≡ slice_get xs k
  overwritten_before k h =
      let n : length (take a xs) ≡ a = length-take-le a xs (omega arith) in
      get_left (take a xs) (ys ++ drop (a + length ys) xs) k (omega arith) ∙ get_take a xs k h

  -- what was written
  pub overwritten_in : (k : ℕ) → a ≤ k → k < a + length ys → slice_get (overwritten xs a ys) k ≡ slice_get ys (k - a)
  overwritten_in k h j =
      let n : length (take a xs) ≡ a = length-take-le a xs (omega arith) in
      get_right (take a xs) (ys ++ drop (a + length ys) xs) k (omega arith)
      ∙ ap (λ m. slice_get (ys ++ drop (a + length ys) xs) (k - m)) n
      ∙ get_left ys (drop (a + length ys) xs) (k - a) (omega arith)

  -- above it
  pub overwritten_after : (k : ℕ) → a + length ys ≤ k → slice_get (overwritten xs a ys) k ≡ slice_get xs k
  overwritten_after k h =
      let n : length (take a xs) ≡ a = length-take-le a xs (omega arith) in
      let e : a + length ys + (k - a - length ys) ≡ k = omega arith in
      get_right (take a xs) (ys ++ drop (a + length ys) xs) k (omega arith)
      ∙ ap (λ m. slice_get (ys ++ drop (a + length ys) xs) (k - m)) n
      ∙ get_right ys (drop (a + length ys) xs) (k - a) (omega arith)
      ∙ get_drop (a + length ys) xs (k - a - length ys)
      ∙ ap (slice_get xs) e

  pub length_overwritten : length (overwritten xs a ys) ≡ length xs
  length_overwritten = grind (arith, common_steps)
