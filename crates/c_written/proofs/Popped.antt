-- A stack without its first item.
use Rattle.std.proofs.Common.{◌≡◌, ◌∙◌, ℕ, zero, suc, ◌-◌, ◌<◌, ◌≤◌, length, get_or, List, [], ◌∷◌, ◌++◌, reverse, Option, Some, None, refl, sym, ap, arith}
use Rattle.std.specs.Prelude.{MatchOption}
use Rattle.std.proofs.lemmas.List.{reverse-append, get_or-reverse, length-reverse}
use Rattle.c_written.specs.Stack.{item_at}

-- what was first was taken
pub popped : {X : Type 0} (r : Option X) (xs ys : List X) (x : X) →
    MatchOption r ((xs ≡ []) × (ys ≡ [])) (λ y. xs ≡ y ∷ ys) → item_at 0 xs ≡ Some x → xs ≡ x ∷ ys
popped None xs ys x h e = absurd (let none : None ≡ Some x = ap (item_at 0) (sym h.0) ∙ e in cc)
popped (Some y) xs ys x h e =
    let same : Some y ≡ Some x = ap (item_at 0) (sym h) ∙ e in
    let one : y ≡ x = cc in
    h ∙ ap (λ z. z ∷ ys) one

pub reverse_more : {X : Type 0} (xs ys : List X) (x : X) → ys ≡ xs ++ x ∷ [] → reverse ys ≡ x ∷ reverse xs
reverse_more xs ys x e = ap reverse e ∙ reverse-append xs (x ∷ [])

at_place : {X : Type 0} (xs : List X) (k : ℕ) (d : X) → k < length xs → item_at k xs ≡ Some (get_or xs k d)
at_place [] k d h = absurd (omega arith)
at_place (x ∷ xs) zero d h = refl
at_place (x ∷ xs) (suc k) d h = at_place xs k d (omega arith)

past_all : {X : Type 0} (xs : List X) (k : ℕ) → length xs ≤ k → item_at k xs ≡ None
past_all [] k h = refl
past_all (x ∷ xs) zero h = absurd (omega arith)
past_all (x ∷ xs) (suc k) h = past_all xs k (omega arith)

-- counted from the end
pub peeked : {X : Type 0} (xs : List X) (k : ℕ) (d : X) → k < length xs →
    item_at k (reverse xs) ≡ Some (get_or xs (length xs - 1 - k) d)
peeked xs k d h =
    at_place (reverse xs) k d (omega (arith, h, length-reverse xs)) ∙ ap (λ y. Some y) (get_or-reverse xs k d h)

pub peeked_none : {X : Type 0} (xs : List X) (k : ℕ) → length xs ≤ k → item_at k (reverse xs) ≡ None
peeked_none xs k h = past_all (reverse xs) k (omega (arith, h, length-reverse xs))
