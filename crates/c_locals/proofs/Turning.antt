-- The numbers of the turns of a loop.
use Rattle.std.proofs.Common.{◌≡◌, ◌∙◌, ℕ, zero, suc, ◌+◌, ◌-◌, ◌<◌, ◌≤◌, true, false, List, [], ◌∷◌, ◌++◌, refl, sym, ap, append_assoc, arith}
use Rattle.std.proofs.lemmas.List.{append-nil}
use Rattle.std.proofs.lemmas.Bool.Decides.{nat_tests}
use Rattle.std.specs.Prelude.{nat_lt}
use Rattle.c_grammar.specs.Locals.{numbers}

pub one_goes : (n a s e : ℕ) → 0 < n → a < e → numbers n a s e ≡ a ∷ numbers (n - 1) (a + s) s e
one_goes zero a s e h k = absurd (omega (arith, h))
one_goes (suc n) a s e h k =
    let t : nat_lt a e ≡ true = grind (arith, nat_tests) in
    let m : n ≡ suc n - 1 = omega arith in
    rw t (ap (λ m. a ∷ numbers m (a + s) s e) m)

pub none_go : (n a s e : ℕ) → e ≤ a → numbers n a s e ≡ []
none_go zero a s e h = refl
none_go (suc n) a s e h = (let t : nat_lt a e ≡ false = grind (arith, nat_tests) in rw t refl)

-- another turn
pub next_turn : (xs ys ns : List ℕ) (n a b s e : ℕ) → 0 < n → a < e → ys ≡ xs ++ a ∷ [] → b ≡ a + s →
    xs ++ numbers n a s e ≡ ns → ys ++ numbers (n - 1) b s e ≡ ns
next_turn xs ys ns n a b s e h k f g i =
    ap (λ (zs : List ℕ). zs ++ numbers (n - 1) b s e) f ∙ append_assoc xs (a ∷ []) (numbers (n - 1) b s e)
    ∙ ap (λ (m : ℕ). xs ++ (a ∷ numbers (n - 1) m s e)) g ∙ ap (λ (ms : List ℕ). xs ++ ms) (sym (one_goes n a s e h k)) ∙ i

-- none is behind it
pub last_turn : (xs ys ns : List ℕ) (n a s e : ℕ) → 0 < n → a < e → e ≤ a + s → ys ≡ xs ++ a ∷ [] →
    xs ++ numbers n a s e ≡ ns → ys ≡ ns
last_turn xs ys ns n a s e h k l f i =
    f ∙ ap (λ (ms : List ℕ). xs ++ (a ∷ ms)) (sym (none_go (n - 1) (a + s) s e l))
    ∙ ap (λ (ms : List ℕ). xs ++ ms) (sym (one_goes n a s e h k)) ∙ i

-- all are there
pub no_turn : (xs ns : List ℕ) (n a s e : ℕ) → numbers n a s e ≡ [] → xs ++ numbers n a s e ≡ ns → xs ≡ ns
no_turn xs ns n a s e h i = sym (append-nil xs) ∙ ap (λ (ms : List ℕ). xs ++ ms) (sym h) ∙ i

-- there may be no more
pub spent : (n a s e : ℕ) → n ≤ 0 → numbers n a s e ≡ []
spent zero a s e h = refl
spent (suc n) a s e h = absurd (omega (arith, h))
