-- Whether a name stays what it is, one token after another.
use Rattle.std.proofs.Common.{◌≡◌, ℕ, zero, suc, ◌-◌, ◌<◌, ◌≤◌, Bool, true, false, List, [], ◌∷◌, ap, refl, arith}
use Rattle.std.specs.Prelude.{◌==◌}
use Rattle.std.proofs.lemmas.Bool.Decides.{nat_tests}
use Rattle.c_tokens.specs.declared.kind.Sign.TheVariants as sign
use Rattle.c_grammar.specs.Terminal.{Terminal, Name, same}
use Rattle.c_grammar.specs.Texts.{Item}
use Rattle.c_grammar.specs.Blocks.{Items}
use Rattle.c_grammar.specs.Constants.{is_mark}
use Rattle.c_grammar.specs.Counters.{is_set, is_type}
use Rattle.c_temporaries.specs.Temporaries.{inner_depth, stays}

positive : (n : ℕ) → 0 < n → (n == 0) ≡ false
positive n h = grind (arith, nat_tests)

less : (k : ℕ) → k ≡ suc k - 1
less k = omega arith

pub none_left : (l : ℕ) (x : List ℕ) (t : Bool) (d : ℕ) (is : Items) → 0 < l → is ≡ [] → true ≡ stays l x t d is
none_left zero x t d is h e = absurd (omega (arith, h))
none_left (suc k) x t d is h e = rw e refl

-- not so many tokens are looked at
pub too_long : (l : ℕ) (x : List ℕ) (t : Bool) (d : ℕ) (is : Items) → l ≡ 0 → false ≡ stays l x t d is
too_long zero x t d is h = refl
too_long (suc k) x t d is h = absurd (omega (arith, h))

-- the block ends
pub closes : (l : ℕ) (x : List ℕ) (t : Bool) (d : ℕ) (i : Item Terminal) (is js : Items) → 0 < l → is ≡ i ∷ js →
    is_mark sign.CloseBrace i ≡ true → d ≡ 0 → true ≡ stays l x t d is
closes zero x t d i is js h e c g = absurd (omega (arith, h))
closes (suc k) x t zero i is js h e c g = rw e (rw c refl)
closes (suc k) x t (suc d) i is js h e c g = absurd (omega (arith, g))

-- a block within it ends
pub inner_closes : (l : ℕ) (x : List ℕ) (t : Bool) (d : ℕ) (i : Item Terminal) (is js : Items) → 0 < l → is ≡ i ∷ js →
    is_mark sign.CloseBrace i ≡ true → 1 ≤ d → stays l x t d is ≡ stays (l - 1) x false (d - 1) js
inner_closes zero x t d i is js h e c g = absurd (omega (arith, h))
inner_closes (suc k) x t zero i is js h e c g = absurd (omega (arith, g))
inner_closes (suc k) x t (suc d) i is js h e c g =
    rw e (rw (c, positive (suc d) (omega arith)) (ap (λ (n : ℕ). stays n x false (suc d - 1) js) (less k)))

-- the name is declared, or assigned
pub declared : (l : ℕ) (x : List ℕ) (t : Bool) (d : ℕ) (i : Item Terminal) (is js : Items) → 0 < l → is ≡ i ∷ js →
    is_mark sign.CloseBrace i ≡ false → same (Name x) i.terminal ≡ true → t ≡ true → false ≡ stays l x t d is
declared zero x t d i is js h e c n g = absurd (omega (arith, h))
declared (suc k) x t d i is js h e c n g = rw e (rw (c, n, g) refl)

pub assigned : (l : ℕ) (x : List ℕ) (t : Bool) (d : ℕ) (i : Item Terminal) (is js : Items) → 0 < l → is ≡ i ∷ js →
    is_mark sign.CloseBrace i ≡ false → same (Name x) i.terminal ≡ true → t ≡ false → is_set js ≡ true →
    false ≡ stays l x t d is
assigned zero x t d i is js h e c n g a = absurd (omega (arith, h))
assigned (suc k) x t d i is js h e c n g a = rw e (rw (c, n, g, a) refl)

-- it is neither
pub read : (l : ℕ) (x : List ℕ) (t : Bool) (d : ℕ) (i : Item Terminal) (is js : Items) → 0 < l → is ≡ i ∷ js →
    is_mark sign.CloseBrace i ≡ false → same (Name x) i.terminal ≡ true → t ≡ false → is_set js ≡ false →
    stays l x t d is ≡ stays (l - 1) x t d js
read zero x t d i is js h e c n g a = absurd (omega (arith, h))
read (suc k) x t d i is js h e c n g a =
    rw e (rw (c, n, g, a) (ap (λ (m : ℕ). stays m x false d js) (less k)))

-- another token
pub other : (l : ℕ) (x : List ℕ) (t : Bool) (d : ℕ) (i : Item Terminal) (is js : Items) → 0 < l → is ≡ i ∷ js →
    is_mark sign.CloseBrace i ≡ false → same (Name x) i.terminal ≡ false →
    stays l x t d is ≡ stays (l - 1) x (is_type i.terminal) (inner_depth i d) js
other zero x t d i is js h e c n = absurd (omega (arith, h))
other (suc k) x t d i is js h e c n =
    rw e (rw (c, n) (ap (λ (m : ℕ). stays m x (is_type i.terminal) (inner_depth i d) js) (less k)))
