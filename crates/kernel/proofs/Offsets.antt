-- The cells of turns that store at the sum of a number and their value.
use Rattle.std.proofs.Common.{◌≡◌, ℕ, ◌+◌, ◌-◌, ◌<◌, ◌≤◌, ◌==◌, Bool, true, false, List, [], Option, Some, None, refl, sym, ap, ap₂, ◌∙◌, arith, subst, if◌then◌else◌, ltb-true, ltb-false}
use Rattle.std.specs.Prelude.{nat_lt, ◌%◌, ◌&&◌, IsSome}
use Rattle.std.proofs.lemmas.Bool.Decides.{nat_tests}
use Rattle.std.proofs.Math.Nat.{mod-eq_of_lt, add-mod_right}
use mathlib.Core.Path.{fun_ext}
use Rattle.base.specs.declared.item.Cell.{Cell}
use Rattle.base.specs.declared.tree.ArrayId.{ArrayId}
use Rattle.base.specs.Memory.{View, Scalars}
use Rattle.base.specs.Value.{modulus}
use Rattle.lanes.specs.Apart.{Set, NamesPlaces, HavePlaces, own_value_places, in_block, with_lanes}
use Rattle.lanes.proofs.Deltas.{turn_names, turn_places}
use Rattle.lanes.proofs.Fixed.{moved_value}
use Rattle.lanes.proofs.Moved.{moved_places_are}
use Rattle.kernel.specs.Lanes.{some_of}
use Rattle.kernel.specs.Offsets.{IsWithin, here_of, moved_by, places_of}

pub place_in : (first count k : ℕ) → k < count → in_block first count (first + k) ≡ true
place_in first count k h = grind (arith, nat_tests)

pub names_here : (own : Set) (before : Scalars) (outer : List ℕ) (o : Option ℕ) →
    NamesPlaces (here_of own before outer o) (places_of o) own before outer
names_here own before outer None = turn_names own before outer
names_here own before outer (Some u) = λ v e names loops kept h. moved_value own before outer v names loops kept u e h

pub places_here : (o : Option ℕ) (first count : ℕ) → 0 < count → IsWithin o (first + count) →
    HavePlaces (in_block first count) (places_of o)
places_here None first count some le = turn_places (in_block first count)
places_here (Some u) first count some le =
    let below : u < modulus = omega arith in
    let fits : first + count ≤ modulus = omega arith in
    (moved_places_are (λ x. false) (λ x. 0) [] u first count below fits).1

-- the index at which a turn stores
pub place_is : (o : Option ℕ) (first n k : ℕ) → IsWithin o (first + n) → k < n →
    (places_of o).place (first + k) ≡ moved_by o + first + k
place_is None first n k le lt = omega arith
place_is (Some u) first n k le lt =
    let less : u + (first + k) < modulus = omega arith in
    let same : u + (first + k) ≡ u + first + k = omega arith in
    mod-eq_of_lt less ∙ same

-- the cells at which the turns store that take part, by their places
pub run_there : (part : ℕ → Bool) (o : Option ℕ) (first n : ℕ) (a : ArrayId) (view : View) → IsWithin o (first + n) →
    ((v : ℕ) → some_of part first n v ≡ true → IsSome (view (record { array = a; index = (places_of o).place v }))) →
    (k : ℕ) → k < n → part k ≡ true → IsSome (view (record { array = a; index = moved_by o + first + k }))
run_there part o first n a view le h k lt here =
    let same : first + k - first ≡ k = omega arith in
    subst (λ (i : ℕ). IsSome (view (record { array = a; index = i }))) (place_is o first n k le lt)
    (h (first + k) (ap (λ j. part j && in_block first n (first + k)) same ∙ ap₂ (λ p q. p && q) here (place_in first n k lt)))

out_of : (first n i : ℕ) → first + n ≤ i → in_block first n i ≡ false
out_of first n i h = grind (arith, nat_tests)

before_it : (first n i : ℕ) → i < first → in_block first n i ≡ false
before_it first n i h = grind (arith, nat_tests)

moved_in : (u first n i : ℕ) → u ≤ i → in_block (u + first) n i ≡ in_block first n (i - u)
moved_in u first n i h = grind (arith, nat_tests)

none_of : (p : Bool) → (p && false) ≡ false
none_of true = refl
none_of false = refl

-- numbers by the index are numbers by the turn of the index
module _ (part : ℕ → Bool) (u first n : ℕ) (f : ℕ → ℕ) (d : Option ℕ) (le : u + (first + n) ≤ modulus) where
  abbrev picked : ℕ → Option ℕ
  picked v = if some_of part first n v then Some (f (v - first)) else d

  abbrev at_index : ℕ → Option ℕ
  at_index i = if some_of part (u + first) n i then Some (f (i - (u + first))) else d

  neither : (i v : ℕ) → in_block (u + first) n i ≡ false → in_block first n v ≡ false → at_index i ≡ picked v
  neither i v p q =
      ap (λ b. if part (i - (u + first)) && b then Some (f (i - (u + first))) else d) p
      ∙ ap (λ b. if b then Some (f (i - (u + first))) else d) (none_of (part (i - (u + first))))
      ∙ sym (ap (λ b. if part (v - first) && b then Some (f (v - first)) else d) q
      ∙ ap (λ b. if b then Some (f (v - first)) else d) (none_of (part (v - first))))

  pub by_turn : (i : ℕ) → at_index i ≡ picked (if nat_lt i modulus then (i + modulus - u) % modulus else i)
  by_turn i = go (nat_lt i modulus) refl
    where
      below : (q : Bool) → i < modulus → nat_lt i u ≡ q → at_index i ≡ picked ((i + modulus - u) % modulus)
      below true lt e =
          let k = ltb-true i u e in
          let less : i + modulus - u < modulus = omega arith in
          neither i (i + modulus - u) (before_it (u + first) n i (omega arith)) (out_of first n (i + modulus - u) (omega arith))
          ∙ sym (ap picked (mod-eq_of_lt less))
      below false lt e =
          let k = ltb-false i u e in
          let less : i - u < modulus = omega arith in
          let over : i + modulus - u ≡ i - u + modulus = omega arith in
          let same : i - (u + first) ≡ i - u - first = omega arith in
          ap (λ b. if part (i - (u + first)) && b then Some (f (i - (u + first))) else d) (moved_in u first n i k)
          ∙ ap (λ j. if part j && in_block first n (i - u) then Some (f j) else d) same
          ∙ sym (ap picked (ap (λ x. x % modulus) over ∙ add-mod_right (i - u) modulus ∙ mod-eq_of_lt less))

      go : (q : Bool) → nat_lt i modulus ≡ q → at_index i ≡ picked (if q then (i + modulus - u) % modulus else i)
      go true e = below (nat_lt i u) (ltb-true i modulus e) refl
      go false e =
          let k = ltb-false i modulus e in
          neither i i (out_of (u + first) n i (omega arith)) (out_of first n i (omega arith))

pub run_same : (part : ℕ → Bool) (o : Option ℕ) (first n a : ℕ) (f : ℕ → ℕ) (view : View) → IsWithin o (first + n) →
    with_lanes own_value_places (some_of part (moved_by o + first) n) a (λ i. f (i - (moved_by o + first))) view
    ≡ with_lanes (places_of o) (some_of part first n) a (λ v. f (v - first)) view
run_same part None first n a f view le =
    let e : 0 + first ≡ first = omega arith in
    ap (λ w. with_lanes own_value_places (some_of part w n) a (λ i. f (i - w)) view) e
run_same part (Some u) first n a f view le = fun_ext (λ (c : Cell). go c (a == c.array.0))
  where
    go : (c : Cell) (q : Bool) →
        (if q && some_of part (u + first) n c.index then Some (f (c.index - (u + first))) else view c)
        ≡ (if q && some_of part first n ((places_of (Some u)).turn_of c.index) then Some (f ((places_of (Some u)).turn_of c.index - first)) else view c)
    go c true = by_turn part u first n f (view c) le c.index
    go c false = refl
