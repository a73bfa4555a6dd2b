-- What stands behind an item of a list.
use Rattle.std.proofs.Common.{◌≡◌, ◌∙◌, ℕ, zero, suc, ◌+◌, ◌<◌, List, [], ◌∷◌, length, drop, map, Some, None, refl, ap, arith}
use Rattle.c_written.specs.Stack.{item_at}

-- the item, and what is behind it
pub behind_item : {X Y : Type 0} (f : X → Y) (xs : List X) (k : ℕ) (x : X) → item_at k xs ≡ Some x →
    drop k (map f xs) ≡ f x ∷ drop (k + 1) (map f xs)
behind_item f [] k x e = absurd cc
behind_item f (y ∷ ys) zero x e = let same : y ≡ x = cc in ap (λ z. f z ∷ map f ys) same
behind_item f (y ∷ ys) (suc k) x e =
    let more : suc (k + 1) ≡ suc k + 1 = omega arith in
    behind_item f ys k x e ∙ ap (λ (n : ℕ). f x ∷ drop n (f y ∷ map f ys)) more

-- no item is left
pub behind_none : {X Y : Type 0} (f : X → Y) (xs : List X) (k : ℕ) → item_at k xs ≡ None → drop k (map f xs) ≡ []
behind_none f [] zero e = refl
behind_none f [] (suc k) e = refl
behind_none f (y ∷ ys) zero e = absurd cc
behind_none f (y ∷ ys) (suc k) e = behind_none f ys k e

pub is_below : {X : Type 0} (xs : List X) (k : ℕ) (x : X) → item_at k xs ≡ Some x → k < length xs
is_below [] k x e = absurd cc
is_below (y ∷ ys) zero x e = omega arith
is_below (y ∷ ys) (suc k) x e = let below = is_below ys k x e in omega arith
