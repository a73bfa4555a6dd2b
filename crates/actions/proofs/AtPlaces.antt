-- Lists at a place.
use Rattle.std.proofs.Common.{◌≡◌, ℕ, zero, suc, ◌<◌, ◌≤◌, List, [], ◌∷◌, ◌++◌, length, map, refl, ap, arith}
use Rattle.std.specs.Prelude.{drop, take, slice_index_or}
use Rattle.std.proofs.Math.Nat.{mod-lt}
use Rattle.actions.specs.Control.{place}

pub at_place : {X : Type 0} (xs : List X) (n : ℕ) (d : X) → n < length xs →
    xs ≡ take n xs ++ slice_index_or xs n d ∷ drop (suc n) xs
at_place {X} [] n d lt = absurd (omega (arith, lt))
at_place {X} (x ∷ xs) zero d lt = refl
at_place {X} (x ∷ xs) (suc n) d lt = ap (λ ys. x ∷ ys) (at_place xs n d (omega (arith, lt)))

pub take_length : {X : Type 0} (xs : List X) (n : ℕ) → n ≤ length xs → length (take n xs) ≡ n
take_length {X} xs zero le = refl
take_length {X} [] (suc n) le = absurd (omega (arith, le))
take_length {X} (x ∷ xs) (suc n) le = ap suc (take_length xs n (omega (arith, le)))

pub map_length : {X Y : Type 0} (f : X → Y) (xs : List X) → length (map f xs) ≡ length xs
map_length {X} {Y} f [] = refl
map_length {X} {Y} f (x ∷ xs) = ap suc (map_length f xs)

pub take_first : {X : Type 0} (xs ys : List X) → take (length xs) (xs ++ ys) ≡ xs
take_first {X} [] ys = refl
take_first {X} (x ∷ xs) ys = ap (λ zs. x ∷ zs) (take_first xs ys)

pub drop_first : {X : Type 0} (xs ys : List X) → drop (length xs) (xs ++ ys) ≡ ys
drop_first {X} [] ys = refl
drop_first {X} (x ∷ xs) ys = drop_first xs ys

pub split_there : {X : Type 0} (xs : List X) (n : ℕ) → xs ≡ take n xs ++ drop n xs
split_there {X} xs zero = refl
split_there {X} [] (suc n) = refl
split_there {X} (x ∷ xs) (suc n) = ap (λ ys. x ∷ ys) (split_there xs n)

pub place_below : (order : List ℕ) (n : ℕ) → 0 < n → place order n < n
place_below [] n some = some
place_below (m ∷ order) zero some = absurd (omega (arith, some))
place_below (m ∷ order) (suc n) some = mod-lt m some
