-- Whether a value is small, one token after another.
use Rattle.std.proofs.Common.{◌≡◌, ℕ, zero, suc, ◌-◌, ◌<◌, true, false, [], ◌∷◌, Some, None, ap, refl, arith}
use Rattle.c_grammar.specs.Terminal.{Terminal}
use Rattle.c_grammar.specs.Texts.{Item}
use Rattle.c_grammar.specs.Blocks.{Items}
use Rattle.c_ints.specs.Ints.{Kind, Value, ends, is_small, small_from, value_by}

less : (k : ℕ) → k ≡ suc k - 1
less k = omega arith

pub none_left : (l : ℕ) (k : Kind) (v : Value) (is : Items) → 0 < l → is ≡ [] → false ≡ small_from l k v is
none_left zero k v is h e = absurd (omega (arith, h))
none_left (suc n) k v is h e = rw e refl

-- not so many tokens are looked at
pub too_long : (l : ℕ) (k : Kind) (v : Value) (is : Items) → l ≡ 0 → false ≡ small_from l k v is
too_long zero k v is h = refl
too_long (suc n) k v is h = absurd (omega (arith, h))

-- the value ends
pub ended : (l : ℕ) (k : Kind) (v : Value) (i : Item Terminal) (is js : Items) → 0 < l → is ≡ i ∷ js → ends i ≡ true →
    is_small v ≡ small_from l k v is
ended zero k v i is js h e c = absurd (omega (arith, h))
ended (suc n) k v i is js h e c = rw e (rw c refl)

-- it cannot go on
pub broken : (l : ℕ) (k : Kind) (v : Value) (i : Item Terminal) (is js : Items) → 0 < l → is ≡ i ∷ js → ends i ≡ false →
    value_by k v i ≡ None → false ≡ small_from l k v is
broken zero k v i is js h e c o = absurd (omega (arith, h))
broken (suc n) k v i is js h e c o = rw e (rw (c, o) refl)

-- it goes on
pub longer : (l : ℕ) (k : Kind) (v w : Value) (i : Item Terminal) (is js : Items) → 0 < l → is ≡ i ∷ js →
    ends i ≡ false → value_by k v i ≡ Some w → small_from l k v is ≡ small_from (l - 1) k w js
longer zero k v w i is js h e c o = absurd (omega (arith, h))
longer (suc n) k v w i is js h e c o =
    rw e (rw (c, o) (ap (λ (m : ℕ). small_from m k w js) (less n)))
