-- One word of a type after another.
use Rattle.std.proofs.Common.{◌≡◌, ℕ, zero, suc, ◌-◌, ◌<◌, Bool, true, false, cond, [], ◌∷◌, refl, sym, ap, arith}
use Rattle.std.specs.Prelude.{codes}
use Rattle.c_grammar.specs.Lexeme.{Uint64}
use Rattle.c_grammar.specs.Terminal.{Terminal, Fixed, Name, same}
use Rattle.c_grammar.specs.Texts.{Item}
use Rattle.c_grammar.specs.Blocks.{Items, is_directive, bare, at, longs, typed, type_at}

pub typed_line : (k : ℕ) (i : Item Terminal) (is : Items) → is_directive i.terminal ≡ true →
    typed k (i ∷ is) ≡ i ∷ typed k is
unfolding typed
typed_line k i is e = rw e refl

pub typed_left : (k : ℕ) (i : Item Terminal) (is : Items) → is_directive i.terminal ≡ false → 0 < k →
    typed k (i ∷ is) ≡ typed (k - 1) is
unfolding typed
typed_left zero i is e h = absurd (omega arith)
typed_left (suc k) i is e h = rw e (ap (λ (n : ℕ). typed n is) (let one : k ≡ suc k - 1 = omega arith in one))

abbrev is_unsigned : Item Terminal → Bool
is_unsigned i = same (Name (codes "unsigned")) i.terminal

one_at : (n m : ℕ) (b : Bool) (i : Item Terminal) (is : Items) → is_unsigned i ≡ b → m ≡ cond b n 0 → m ≡ 0 →
    type_at i n (λ k. typed k is) ≡ i ∷ typed 0 is
one_at zero m b i is e f g = refl
one_at (suc n) m true i is e f g = absurd (omega arith)
one_at (suc n) m false i is e f g = rw e refl

pub typed_one : (k m : ℕ) (i : Item Terminal) (is : Items) → k ≡ 0 → is_directive i.terminal ≡ false →
    m ≡ cond (is_unsigned i) (longs (bare is)) 0 → m ≡ 0 → typed k (i ∷ is) ≡ i ∷ typed k is
unfolding typed
typed_one zero m i is k e f g = rw e (one_at (longs (bare is)) m (is_unsigned i) i is refl f g)
typed_one (suc k) m i is h e f g = absurd (omega arith)

more_at : (n m : ℕ) (b : Bool) (i : Item Terminal) (is : Items) → is_unsigned i ≡ b → m ≡ cond b n 0 → 0 < m →
    type_at i n (λ k. typed k is) ≡ at i (Fixed Uint64) ∷ typed m is
more_at zero m true i is e f g = absurd (omega arith)
more_at zero m false i is e f g = absurd (omega arith)
more_at (suc n) m true i is e f g = rw e (ap (λ (k : ℕ). at i (Fixed Uint64) ∷ typed k is) (sym f))
more_at (suc n) m false i is e f g = absurd (omega arith)

pub typed_more : (k m : ℕ) (i : Item Terminal) (is : Items) → k ≡ 0 → is_directive i.terminal ≡ false →
    m ≡ cond (is_unsigned i) (longs (bare is)) 0 → 0 < m → typed k (i ∷ is) ≡ at i (Fixed Uint64) ∷ typed m is
unfolding typed
typed_more zero m i is k e f g = rw e (more_at (longs (bare is)) m (is_unsigned i) i is refl f g)
typed_more (suc k) m i is h e f g = absurd (omega arith)

pub typed_end : (k : ℕ) → typed k [] ≡ []
unfolding typed
typed_end k = refl
