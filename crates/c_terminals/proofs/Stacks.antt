-- Lists of which the last is seen first.
use Rattle.std.proofs.Common.{◌≡◌, ◌∙◌, List, [], ◌∷◌, ◌++◌, map, reverse, refl, ap}
use Rattle.std.proofs.lemmas.List.{reverse-append}

map_more : {X Y : Type 0} (f : X → Y) (xs : List X) (x : X) → map f (xs ++ x ∷ []) ≡ map f xs ++ f x ∷ []
map_more f [] x = refl
map_more f (y ∷ ys) x = ap (λ zs. f y ∷ zs) (map_more f ys x)

-- one more
pub stack_more : {X Y : Type 0} (f : X → Y) (xs : List X) (x : X) → reverse (map f (xs ++ x ∷ [])) ≡ f x ∷ reverse (map f xs)
stack_more f xs x = ap reverse (map_more f xs x) ∙ reverse-append (map f xs) (f x ∷ [])

pub stack_pushed : {X Y : Type 0} (f : X → Y) (xs ys : List X) (x : X) → ys ≡ xs ++ x ∷ [] →
    reverse (map f ys) ≡ f x ∷ reverse (map f xs)
stack_pushed f xs ys x e = ap (λ zs. reverse (map f zs)) e ∙ stack_more f xs x
