-- Places that are moved on by a number, modulo 2^64: each turn has its own.
use Rattle.std.proofs.Common.{◌≡◌, ℕ, ◌+◌, ◌-◌, ◌<◌, ◌≤◌, Bool, true, false, refl, sym, ap, ◌∙◌, arith, if◌then◌else◌, ltb-true, ltb-false}
use Rattle.std.specs.Prelude.{nat_le, nat_lt, ◌%◌}
use Rattle.std.proofs.lemmas.Bool.{and_parts, false≢true}
use Rattle.std.proofs.lemmas.Bool.Decides.{nat_tests}
use Rattle.std.proofs.Math.Nat.{mod-eq_of_lt, add-mod_right}
use Rattle.base.specs.Value.{modulus}
use Rattle.lanes.specs.Apart.{in_block}
use Rattle.lanes.specs.Moved.{OwnValuePlaces, MovedPlaces}
use Rattle.lanes.proofs.Deltas.{turn_names, turn_places}
use Rattle.lanes.proofs.Fixed.{moved_value}

outside : (first count i : ℕ) → first + count ≤ i → in_block first count i ≡ false
outside first count i h = grind (arith, nat_tests)

pub in_below : (first count v m : ℕ) → first + count ≤ m → in_block first count v ≡ true → v < m
in_below first count v m le h =
    let k = ltb-true v (first + count) (and_parts (nat_le first v) (nat_lt v (first + count)) h).1 in omega arith

-- moved on and back again, below a modulus
module _ (m u : ℕ) (below : u < m) where
  abbrev pub turn_at : ℕ → ℕ
  turn_at i = if nat_lt i m then (i + m - u) % m else i

  pub is_below : (i : ℕ) → i < m → nat_lt i m ≡ true
  is_below i h = grind (arith, nat_tests)

  back : (v : ℕ) → v < m → turn_at ((u + v) % m) ≡ v
  back v h = go (nat_lt (u + v) m) refl
    where
      at : (i : ℕ) → i < m → (i + m - u) % m ≡ v → turn_at i ≡ v
      at i k e = ap (λ q. if q then (i + m - u) % m else i) (is_below i k) ∙ e

      go : (q : Bool) → nat_lt (u + v) m ≡ q → turn_at ((u + v) % m) ≡ v
      go true e =
          let k = ltb-true (u + v) m e in
          let same : u + v + m - u ≡ v + m = omega arith in
          ap turn_at (mod-eq_of_lt k)
          ∙ at (u + v) k (ap (λ x. x % m) same ∙ add-mod_right v m ∙ mod-eq_of_lt h)
      go false e =
          let k = ltb-false (u + v) m e in
          let less : u + v - m < m = omega arith in
          let over : u + v ≡ u + v - m + m = omega arith in
          let same : u + v - m + m - u ≡ v = omega arith in
          ap turn_at (ap (λ x. x % m) over ∙ add-mod_right (u + v - m) m ∙ mod-eq_of_lt less)
          ∙ at (u + v - m) less (ap (λ x. x % m) same ∙ mod-eq_of_lt h)

  forth : (i : ℕ) → i < m → (u + turn_at i) % m ≡ i
  forth i h = ap (λ q. (u + (if q then (i + m - u) % m else i)) % m) (is_below i h) ∙ go (nat_lt i u) refl
    where
      go : (q : Bool) → nat_lt i u ≡ q → (u + (i + m - u) % m) % m ≡ i
      go true e =
          let k = ltb-true i u e in
          let less : i + m - u < m = omega arith in
          let same : u + (i + m - u) ≡ i + m = omega arith in
          ap (λ x. (u + x) % m) (mod-eq_of_lt less) ∙ ap (λ x. x % m) same ∙ add-mod_right i m ∙ mod-eq_of_lt h
      go false e =
          let k = ltb-false i u e in
          let less : i - u < m = omega arith in
          let over : i + m - u ≡ i - u + m = omega arith in
          let same : u + (i - u) ≡ i = omega arith in
          ap (λ x. (u + x) % m) (ap (λ x. x % m) over ∙ add-mod_right (i - u) m ∙ mod-eq_of_lt less)
          ∙ ap (λ x. x % m) same ∙ mod-eq_of_lt h

  above : (i : ℕ) → nat_lt i m ≡ false → turn_at i ≡ i
  above i h = ap (λ q. if q then (i + m - u) % m else i) h

  -- a turn below the modulus stands at an index below it
  pub forth_in : (first count i : ℕ) → first + count ≤ m → in_block first count (turn_at i) ≡ true → (u + turn_at i) % m ≡ i
  forth_in first count i le h = go (nat_lt i m) refl
    where
      go : (q : Bool) → nat_lt i m ≡ q → (u + turn_at i) % m ≡ i
      go true e = forth i (ltb-true i m e)
      go false e =
          let k = ltb-false i m e in
          let out : in_block first count i ≡ true = sym (ap (in_block first count) (above i e)) ∙ h in
          absurd (false≢true (sym (outside first count i (omega arith)) ∙ out))

pub own_value_places_are : OwnValuePlaces
own_value_places_are own before outer inside = (turn_names own before outer, turn_places inside)

pub moved_places_are : MovedPlaces
moved_places_are own before outer u first count below le = (
  λ v e names loops kept h. moved_value own before outer v names loops kept u e h,
  record {
    back = λ v h. back modulus u below v (in_below first count v modulus le h);
    forth = λ i h. forth_in modulus u below first count i le h;
  },
)
