-- Whether a name gets small values alone, one token after another.
use Rattle.std.proofs.Common.{◌≡◌, ℕ, zero, suc, ◌-◌, ◌<◌, ◌≤◌, Bool, true, false, List, [], ◌∷◌, ap, refl, arith}
use Rattle.std.specs.Prelude.{◌==◌}
use Rattle.std.proofs.lemmas.Bool.Decides.{nat_tests}
use Rattle.c_tokens.specs.declared.kind.Sign.TheVariants as sign
use Rattle.c_grammar.specs.Terminal.{Terminal}
use Rattle.c_grammar.specs.Texts.{Item}
use Rattle.c_grammar.specs.Blocks.{Items}
use Rattle.c_grammar.specs.Constants.{is_mark}
use Rattle.c_ints.specs.Ints.{Kind, inner_depth, is_any_type, is_word, keeps, stays_small}

positive : (n : ℕ) → 0 < n → (n == 0) ≡ false
positive n h = grind (arith, nat_tests)

less : (k : ℕ) → k ≡ suc k - 1
less k = omega arith

pub none_left : (l : ℕ) (k : Kind) (x : List ℕ) (t : Bool) (d : ℕ) (is : Items) → 0 < l → is ≡ [] →
    true ≡ keeps l k x t d is
none_left zero k x t d is h e = absurd (omega (arith, h))
none_left (suc n) k x t d is h e = rw e refl

-- not so many tokens are looked at
pub too_long : (l : ℕ) (k : Kind) (x : List ℕ) (t : Bool) (d : ℕ) (is : Items) → l ≡ 0 → false ≡ keeps l k x t d is
too_long zero k x t d is h = refl
too_long (suc n) k x t d is h = absurd (omega (arith, h))

-- the block ends
pub closes : (l : ℕ) (k : Kind) (x : List ℕ) (t : Bool) (d : ℕ) (i : Item Terminal) (is js : Items) → 0 < l →
    is ≡ i ∷ js → is_mark sign.CloseBrace i ≡ true → d ≡ 0 → true ≡ keeps l k x t d is
closes zero k x t d i is js h e c g = absurd (omega (arith, h))
closes (suc n) k x t zero i is js h e c g = rw e (rw c refl)
closes (suc n) k x t (suc d) i is js h e c g = absurd (omega (arith, g))

-- a block within it ends
pub inner_closes : (l : ℕ) (k : Kind) (x : List ℕ) (t : Bool) (d : ℕ) (i : Item Terminal) (is js : Items) → 0 < l →
    is ≡ i ∷ js → is_mark sign.CloseBrace i ≡ true → 1 ≤ d → keeps l k x t d is ≡ keeps (l - 1) k x false (d - 1) js
inner_closes zero k x t d i is js h e c g = absurd (omega (arith, h))
inner_closes (suc n) k x t zero i is js h e c g = absurd (omega (arith, g))
inner_closes (suc n) k x t (suc d) i is js h e c g =
    rw e (rw (c, positive (suc d) (omega arith)) (ap (λ (m : ℕ). keeps m k x false (suc d - 1) js) (less n)))

-- the name is declared, or gets another value
pub declared : (l : ℕ) (k : Kind) (x : List ℕ) (t : Bool) (d : ℕ) (i : Item Terminal) (is js : Items) → 0 < l →
    is ≡ i ∷ js → is_mark sign.CloseBrace i ≡ false → is_word x i.terminal ≡ true → t ≡ true →
    false ≡ keeps l k x t d is
declared zero k x t d i is js h e c n g = absurd (omega (arith, h))
declared (suc m) k x t d i is js h e c n g = rw e (rw (c, n, g) refl)

pub grown : (l : ℕ) (k : Kind) (x : List ℕ) (t : Bool) (d : ℕ) (i : Item Terminal) (is js : Items) → 0 < l →
    is ≡ i ∷ js → is_mark sign.CloseBrace i ≡ false → is_word x i.terminal ≡ true → t ≡ false →
    stays_small k x js ≡ false → false ≡ keeps l k x t d is
grown zero k x t d i is js h e c n g a = absurd (omega (arith, h))
grown (suc m) k x t d i is js h e c n g a = rw e (rw (c, n, g, a) refl)

-- it is neither
pub kept : (l : ℕ) (k : Kind) (x : List ℕ) (t : Bool) (d : ℕ) (i : Item Terminal) (is js : Items) → 0 < l →
    is ≡ i ∷ js → is_mark sign.CloseBrace i ≡ false → is_word x i.terminal ≡ true → t ≡ false →
    stays_small k x js ≡ true → keeps l k x t d is ≡ keeps (l - 1) k x t d js
kept zero k x t d i is js h e c n g a = absurd (omega (arith, h))
kept (suc m) k x t d i is js h e c n g a =
    rw e (rw (c, n, g, a) (ap (λ (n : ℕ). keeps n k x false d js) (less m)))

-- another token
pub other : (l : ℕ) (k : Kind) (x : List ℕ) (t : Bool) (d : ℕ) (i : Item Terminal) (is js : Items) → 0 < l →
    is ≡ i ∷ js → is_mark sign.CloseBrace i ≡ false → is_word x i.terminal ≡ false →
    keeps l k x t d is ≡ keeps (l - 1) k x (is_any_type i.terminal) (inner_depth i d) js
other zero k x t d i is js h e c n = absurd (omega (arith, h))
other (suc m) k x t d i is js h e c n =
    rw e (rw (c, n) (ap (λ (n : ℕ). keeps n k x (is_any_type i.terminal) (inner_depth i d) js) (less m)))
