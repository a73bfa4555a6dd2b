-- One token of a call of printf after another.
use Rattle.std.proofs.Common.{◌≡◌, ℕ, zero, suc, ◌-◌, ◌<◌, Bool, true, false, cond, [], ◌∷◌, refl, sym, ap, arith}
use Rattle.std.specs.Prelude.{codes}
use Rattle.c_grammar.specs.Lexeme.{Print}
use Rattle.c_grammar.specs.Terminal.{Terminal, Fixed, Name, same}
use Rattle.c_grammar.specs.Texts.{Item}
use Rattle.c_grammar.specs.Blocks.{Items, is_directive, bare, at}
use Rattle.c_grammar.specs.Prints.{text_len, alone, print_at, printed, stays}

pub printed_line : (k : ℕ) (i : Item Terminal) (is : Items) → is_directive i.terminal ≡ true →
    printed k (i ∷ is) ≡ i ∷ printed k is
unfolding printed
printed_line k i is e = rw e refl

pub printed_stays : (k : ℕ) (i : Item Terminal) (is : Items) → is_directive i.terminal ≡ false → 0 < k →
    stays i.terminal ≡ true → printed k (i ∷ is) ≡ i ∷ printed k is
unfolding printed
printed_stays zero i is e h f = absurd (omega arith)
printed_stays (suc k) i is e h f = rw (e, f) refl

pub printed_left : (k : ℕ) (i : Item Terminal) (is : Items) → is_directive i.terminal ≡ false → 0 < k →
    stays i.terminal ≡ false → printed k (i ∷ is) ≡ printed (k - 1) is
unfolding printed
printed_left zero i is e h f = absurd (omega arith)
printed_left (suc k) i is e h f =
    rw (e, f) (ap (λ (n : ℕ). printed n is) (let one : k ≡ suc k - 1 = omega arith in one))

abbrev is_printf : Item Terminal → Bool
is_printf i = same (Name (codes "printf")) i.terminal

one_at : (n m : ℕ) (b : Bool) (i : Item Terminal) (is : Items) → is_printf i ≡ b → m ≡ cond b n 0 → m ≡ 0 →
    print_at i n (λ k. printed k is) ≡ alone i ∷ printed 0 is
one_at zero m b i is e f g = refl
one_at (suc n) m true i is e f g = absurd (omega arith)
one_at (suc n) m false i is e f g = rw e refl

pub printed_one : (k m : ℕ) (i : Item Terminal) (is : Items) → k ≡ 0 → is_directive i.terminal ≡ false →
    m ≡ cond (is_printf i) (text_len (bare is)) 0 → m ≡ 0 → printed k (i ∷ is) ≡ alone i ∷ printed k is
unfolding printed
printed_one zero m i is k e f g = rw e (one_at (text_len (bare is)) m (is_printf i) i is refl f g)
printed_one (suc k) m i is h e f g = absurd (omega arith)

more_at : (n m : ℕ) (b : Bool) (i : Item Terminal) (is : Items) → is_printf i ≡ b → m ≡ cond b n 0 → 0 < m →
    print_at i n (λ k. printed k is) ≡ at i (Fixed Print) ∷ printed m is
more_at zero m true i is e f g = absurd (omega arith)
more_at zero m false i is e f g = absurd (omega arith)
more_at (suc n) m true i is e f g = rw e (ap (λ (k : ℕ). at i (Fixed Print) ∷ printed k is) (sym f))
more_at (suc n) m false i is e f g = absurd (omega arith)

pub printed_more : (k m : ℕ) (i : Item Terminal) (is : Items) → k ≡ 0 → is_directive i.terminal ≡ false →
    m ≡ cond (is_printf i) (text_len (bare is)) 0 → 0 < m → printed k (i ∷ is) ≡ at i (Fixed Print) ∷ printed m is
unfolding printed
printed_more zero m i is k e f g = rw e (more_at (text_len (bare is)) m (is_printf i) i is refl f g)
printed_more (suc k) m i is h e f g = absurd (omega arith)

pub printed_end : (k : ℕ) → printed k [] ≡ []
unfolding printed
printed_end k = refl
