-- What comes of a token of a block that is no brace.
use Rattle.std.proofs.Common.{◌≡◌, ◌∙◌, ℕ, zero, suc, ◌<◌, Bool, true, false, ◌∷◌, refl, sym, ap, arith}
use Rattle.std.specs.Prelude.{◌&&◌, not, codes}
use Rattle.c_grammar.specs.Terminal.{Terminal}
use Rattle.c_grammar.specs.Texts.{Item}
use Rattle.c_grammar.specs.Blocks.{Items}
use Rattle.c_grammar.specs.Changes.{is_boundary}
use Rattle.c_grammar.specs.Loops.{Limit, Seen, changes, grows, is_word, seen_at, step_at}
use Rattle.c_loops.specs.Growing.{grows_other}

stepped : (l : Limit) (s : Seen) (i : Item Terminal) (is : Items) (n : ℕ) → is_word (codes "continue") i ≡ false →
    step_at l s (i ∷ is) ≡ n → 0 < n → grows_other l s i is ≡ (not s.grown && grows l (seen_at s.depth true true) n is)
stepped l s i is zero w e h = absurd (omega arith)
stepped l s i is (suc k) w e h = rw (w, e) refl

unstepped : (l : Limit) (s : Seen) (i : Item Terminal) (is : Items) (n : ℕ) → is_word (codes "continue") i ≡ false →
    step_at l s (i ∷ is) ≡ n → n ≡ 0 →
    grows_other l s i is ≡ (not (changes l i is) && grows l (seen_at s.depth (is_boundary i.terminal) s.grown) 0 is)
unstepped l s i is n w e z = rw (w, e, z) refl

pub twice : (l : Limit) (s : Seen) (i : Item Terminal) (is : Items) (n : ℕ) → is_word (codes "continue") i ≡ false →
    step_at l s (i ∷ is) ≡ n → 0 < n → s.grown ≡ true → false ≡ grows_other l s i is
twice l s i is n w e h g = sym (stepped l s i is n w e h ∙ ap (λ (t : Bool). not t && grows l (seen_at s.depth true true) n is) g)

pub once : (l : Limit) (s : Seen) (i : Item Terminal) (is : Items) (n : ℕ) → is_word (codes "continue") i ≡ false →
    step_at l s (i ∷ is) ≡ n → 0 < n → s.grown ≡ false → grows l (seen_at s.depth true true) n is ≡ grows_other l s i is
once l s i is n w e h g = sym (stepped l s i is n w e h ∙ ap (λ (t : Bool). not t && grows l (seen_at s.depth true true) n is) g)

pub changed : (l : Limit) (s : Seen) (i : Item Terminal) (is : Items) (n : ℕ) → is_word (codes "continue") i ≡ false →
    step_at l s (i ∷ is) ≡ n → n ≡ 0 → changes l i is ≡ true → false ≡ grows_other l s i is
changed l s i is n w e z c =
    sym (unstepped l s i is n w e z
    ∙ ap (λ (t : Bool). not t && grows l (seen_at s.depth (is_boundary i.terminal) s.grown) 0 is) c)

pub unchanged : (l : Limit) (s : Seen) (i : Item Terminal) (is : Items) (n : ℕ) → is_word (codes "continue") i ≡ false →
    step_at l s (i ∷ is) ≡ n → n ≡ 0 → changes l i is ≡ false →
    grows l (seen_at s.depth (is_boundary i.terminal) s.grown) 0 is ≡ grows_other l s i is
unchanged l s i is n w e z c =
    sym (unstepped l s i is n w e z
    ∙ ap (λ (t : Bool). not t && grows l (seen_at s.depth (is_boundary i.terminal) s.grown) 0 is) c)

pub starting : (l : Limit) (d : ℕ) (t u g r : Bool) (is : Items) → t ≡ u → grows l (seen_at d u g) 0 is ≡ r →
    grows l (seen_at d t g) 0 is ≡ r
starting l d t u g r is e h = ap (λ (b : Bool). grows l (seen_at d b g) 0 is) e ∙ h
