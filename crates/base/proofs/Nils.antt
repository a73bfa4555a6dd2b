-- A list made by `filter`, `map` or `++` is empty only where its parts are.
use Rattle.std.proofs.Common.{◌≡◌, Bool, true, false, List, [], ◌∷◌, ◌++◌, map, refl}
use Rattle.std.specs.Prelude.{filter, if◌then◌else◌}

pub nil_parts : {A : Type 0} (xs ys : List A) → xs ++ ys ≡ [] → (xs ≡ []) × (ys ≡ [])
nil_parts [] ys h = (refl, h)
nil_parts (x ∷ xs) ys h = absurd (cc h)

pub nil_map : {A B : Type 0} (f : A → B) (xs : List A) → map f xs ≡ [] → xs ≡ []
nil_map f [] h = refl
nil_map f (x ∷ xs) h = absurd (cc h)

pub nil_filter : {A : Type 0} (p : A → Bool) (x : A) (xs : List A) → filter p (x ∷ xs) ≡ [] →
    (p x ≡ false) × (filter p xs ≡ [])
nil_filter {A} p x xs h = go (p x) h
  where
    go : (b : Bool) → (if b then x ∷ filter p xs else filter p xs) ≡ [] → (b ≡ false) × (filter p xs ≡ [])
    go true h = absurd (cc h)
    go false h = (refl, h)
