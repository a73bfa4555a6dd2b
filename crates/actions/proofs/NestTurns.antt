-- The turns of a nest of loops, by their number.
use Rattle.std.proofs.Common.{◌≡◌, ℕ, zero, suc, ◌+◌, ◌-◌, ◌*◌, ◌/◌, ◌%◌, ◌<◌, List, [], ◌∷◌, ◌++◌, length, refl, ap, sym, ◌∙◌, arith, ⊎_elim, length-append, mod-eq_of_lt, add-mul}
use Rattle.std.specs.Prelude.{slice_get}
use Rattle.std.proofs.lemmas.Bool.{cases_lt}
use Rattle.std.proofs.Math.Nat.{add-div_right, add-mod_right, div-eq_of_lt}
use Rattle.base.specs.Turns.{Turn, each_turn}

pub each_length : (n v step m : ℕ) (f : ℕ → List Turn) → ((u : ℕ) → length (f u) ≡ m) →
    length (each_turn n v step f) ≡ n * m
each_length zero v step m f h = grind arith
each_length (suc n) v step m f h =
    let long = length-append (f v) (each_turn n (v + step) step f) in
    let first = h v in
    let rest = each_length n (v + step) step m f h in
    grind (arith, long, first, rest)

get_left : (xs ys : List Turn) (k : ℕ) → k < length xs → slice_get (xs ++ ys) k ≡ slice_get xs k
get_left [] ys k lt = absurd (omega (arith, lt))
get_left (x ∷ xs) ys zero lt = refl
get_left (x ∷ xs) ys (suc k) lt = get_left xs ys k (omega (arith, lt))

get_right : (xs ys : List Turn) (k j : ℕ) → k ≡ length xs + j → slice_get (xs ++ ys) k ≡ slice_get ys j
get_right [] ys k j is = ap (slice_get ys) (omega (arith, is))
get_right (x ∷ xs) ys zero j is = absurd (omega (arith, is))
get_right (x ∷ xs) ys (suc k) j is = get_right xs ys k j (omega (arith, is))

spread : (v step q : ℕ) → (v + step) + q * step ≡ v + (q + 1) * step
spread v step q = let e = add-mul q 1 step in grind (arith, e)

pub each_at : (n v step m k : ℕ) (f : ℕ → List Turn) → ((u : ℕ) → length (f u) ≡ m) → 0 < m → k < n * m →
    slice_get (each_turn n v step f) k ≡ slice_get (f (v + k / m * step)) (k % m)
each_at zero v step m k f h some lt = absurd (grind (arith, lt))
each_at (suc n) v step m k f h some lt = ⊎_elim
    (λ below.
    let here : k / m ≡ 0 = div-eq_of_lt below in
    let same : v ≡ v + k / m * step = grind (arith, here) in
    get_left (f v) (each_turn n (v + step) step f) k (omega (arith, below, h v))
    ∙ (λ i. slice_get (f (same i)) (sym (mod-eq_of_lt below) i)))
    (λ past.
    let j = k - m in
    let is : k ≡ j + m = omega (arith, past) in
    let low : j < n * m = grind (arith, lt, is) in
    let quotient : k / m ≡ j / m + 1 = ap (λ x. x / m) is ∙ add-div_right j some in
    let remainder : k % m ≡ j % m = ap (λ x. x % m) is ∙ add-mod_right j m in
    let value = spread v step (j / m) ∙ ap (λ q. v + q * step) (sym quotient) in
    get_right (f v) (each_turn n (v + step) step f) k j (omega (arith, is, h v))
    ∙ each_at n (v + step) step m j f h some low
    ∙ (λ i. slice_get (f (value i)) (sym remainder i)))
    (cases_lt k m)
