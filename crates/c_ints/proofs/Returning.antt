-- Whether what is returned is the last statement, one token after another.
use Rattle.std.proofs.Common.{◌≡◌, ℕ, zero, suc, ◌-◌, ◌<◌, Bool, true, false, [], ◌∷◌, ap, refl, arith}
use Rattle.std.specs.Prelude.{◌&&◌}
use Rattle.c_tokens.specs.declared.kind.Sign.TheVariants as sign
use Rattle.c_grammar.specs.Terminal.{Terminal}
use Rattle.c_grammar.specs.Texts.{Item}
use Rattle.c_grammar.specs.Blocks.{Items}
use Rattle.c_grammar.specs.Constants.{is_mark, is_name}
use Rattle.c_ints.specs.Ints.{is_last_brace, is_last_return, is_returned}

less : (k : ℕ) → k ≡ suc k - 1
less k = omega arith

pub none_left : (l : ℕ) (t : Bool) (is : Items) → 0 < l → is ≡ [] → false ≡ is_last_return l t is
none_left zero t is h e = absurd (omega (arith, h))
none_left (suc n) t is h e = rw e refl

-- not so many tokens are looked at
pub too_long : (l : ℕ) (t : Bool) (is : Items) → l ≡ 0 → false ≡ is_last_return l t is
too_long zero t is h = refl
too_long (suc n) t is h = absurd (omega (arith, h))

-- the statement ends
pub ended : (l : ℕ) (t : Bool) (i : Item Terminal) (is js : Items) → 0 < l → is ≡ i ∷ js →
    is_mark sign.Semicolon i ≡ true → is_last_brace js ≡ is_last_return l t is
ended zero t i is js h e c = absurd (omega (arith, h))
ended (suc n) t i is js h e c = rw e (rw c refl)

-- another token is returned
pub broken : (l : ℕ) (t : Bool) (i : Item Terminal) (is js : Items) → 0 < l → is ≡ i ∷ js →
    is_mark sign.Semicolon i ≡ false → is_returned i ≡ false → false ≡ is_last_return l t is
broken zero t i is js h e c r = absurd (omega (arith, h))
broken (suc n) t i is js h e c r = rw e (rw (c, r) refl)

-- a function is called
pub called : (l : ℕ) (t : Bool) (i : Item Terminal) (is js : Items) → 0 < l → is ≡ i ∷ js →
    is_mark sign.Semicolon i ≡ false → is_returned i ≡ true → (t && is_mark sign.OpenParen i) ≡ true →
    false ≡ is_last_return l t is
called zero t i is js h e c r p = absurd (omega (arith, h))
called (suc n) t i is js h e c r p = rw e (rw (c, r, p) refl)

-- it is neither
pub longer : (l : ℕ) (t : Bool) (i : Item Terminal) (is js : Items) → 0 < l → is ≡ i ∷ js →
    is_mark sign.Semicolon i ≡ false → is_returned i ≡ true → (t && is_mark sign.OpenParen i) ≡ false →
    is_last_return l t is ≡ is_last_return (l - 1) (is_name i.terminal) js
longer zero t i is js h e c r p = absurd (omega (arith, h))
longer (suc n) t i is js h e c r p =
    rw e (rw (c, r, p) (ap (λ (m : ℕ). is_last_return m (is_name i.terminal) js) (less n)))

-- ---- a name, and a bracket behind it

pub with_bracket : (t b : Bool) → t ≡ true → b ≡ true → (t && b) ≡ true
with_bracket t b g h = rw (g, h) refl

pub neither : (t b : Bool) → b ≡ false → (t && b) ≡ false
neither true b h = h
neither false b h = refl

pub unnamed : (t b : Bool) → t ≡ false → (t && b) ≡ false
unnamed t b g = rw g refl
