-- Whether a list is empty, by its length.
use Rattle.std.proofs.Common.{◌≡◌, ℕ, ◌<◌, Bool, true, false, eqb, List, [], ◌∷◌, length, refl, ap, ◌∙◌, arith}
use Rattle.std.proofs.lemmas.Bool.Decides.{nat_tests}

pub empty_items : {A : Type 0} (xs : List A) (len : ℕ) (b : Bool) → b ≡ eqb len 0 → len ≡ length xs → b ≡ true → xs ≡ []
empty_items [] len b e h k = refl
empty_items (x ∷ xs) len b e h k = (let none : len ≡ 0 = grind (arith, nat_tests) in absurd (omega (arith, none, h)))

pub not_empty : {A : Type 0} (xs : List A) (len : ℕ) (b : Bool) → b ≡ eqb len 0 → len ≡ length xs → b ≡ false → xs ≡ [] → ⊥
not_empty xs len b e h k z =
    let none : len ≡ 0 = h ∙ ap (λ ys. length ys) z in
    let some : 0 < len = grind (arith, nat_tests) in
    omega (arith, none, some)
