-- Numbers that go into cells of an array where a mask has their place.
use Rattle.std.proofs.Common.{◌≡◌, ℕ, ◌+◌, ◌-◌, ◌==◌, Bool, true, false, List, Option, Some, refl, sym, ap, ap₂, ◌∙◌, arith, subst, if◌then◌else◌, eqb-true}
use Rattle.std.specs.Prelude.{◌&&◌, IsSome}
use Rattle.std.proofs.lemmas.Bool.Decides.{nat_tests}
use mathlib.Core.Path.{fun_ext}
use Rattle.base.specs.declared.item.Cell.{Cell}
use Rattle.base.specs.declared.tree.ArrayId.{ArrayId}
use Rattle.base.specs.Memory.{View}
use Rattle.lanes.specs.Apart.{own_value_places, in_block, with_lanes}
use Rattle.kernel.specs.Lanes.{IsStoredIn, some_of}
use Rattle.kernel.specs.Machine.{with_cell}
use Rattle.kernel.specs.Rows.{cells_kept, parts_stored}
use Rattle.kernel.specs.Rows.{Parts}

none_in : (first i : ℕ) → in_block first 0 i ≡ false
none_in first i = grind (arith, nat_tests)

last_in : (first n i : ℕ) → first + n ≡ i → in_block first (n + 1) i ≡ true
last_in first n i h = grind (arith, nat_tests)

same_in : (first n i : ℕ) → (first + n == i) ≡ false → in_block first (n + 1) i ≡ in_block first n i
same_in first n i h = grind (arith, nat_tests)

never : (p : Bool) → (p && false) ≡ false
never true = refl
never false = refl

-- at first nothing is stored
pub none_stored : (part : ℕ → Bool) (first a : ℕ) (f : ℕ → ℕ) (view : View) → IsStoredIn part first 0 a f view view
none_stored part first a f view =
    fun_ext (λ (c : Cell). sym (ap (λ q. if (a == c.array.0) && (part (c.index - first) && q) then Some (f (c.index - first)) else view c)
    (none_in first c.index)
    ∙ ap (λ q. if (a == c.array.0) && q then Some (f (c.index - first)) else view c) (never (part (c.index - first)))
    ∙ ap (λ q. if q then Some (f (c.index - first)) else view c) (never (a == c.array.0))))

module _ (part : ℕ → Bool) (first : ℕ) (a : ArrayId) (f : ℕ → ℕ) (n : ℕ) (old cur : View) (so : IsStoredIn part first n a.0 f old cur) where
  abbrev cell : Cell
  cell = record { array = a; index = first + n }

  -- with the next place
  abbrev next : Cell → Option ℕ
  next c = with_lanes own_value_places (some_of part first (n + 1)) a.0 (λ i. f (i - first)) old c

  elsewhere : (c : Cell) (q : Bool) → (first + n == c.index) ≡ false →
      (if q && (part (c.index - first) && in_block first n c.index) then Some (f (c.index - first)) else old c)
      ≡ (if q && (part (c.index - first) && in_block first (n + 1) c.index) then Some (f (c.index - first)) else old c)
  elsewhere c q e =
      ap (λ w. if q && (part (c.index - first) && w) then Some (f (c.index - first)) else old c) (sym (same_in first n c.index e))

  part_here : (c : Cell) → (first + n == c.index) ≡ true → part (c.index - first) ≡ part n
  part_here c e =
      let i = eqb-true (first + n) c.index e in
      let m : c.index - first ≡ n = omega arith in
      ap part m

  pub stored_here : (v : ℕ) → v ≡ f n → part n ≡ true → with_cell cur cell v ≡ next
  stored_here v is here =
      ap (λ (view : View). with_cell view cell v) so
      ∙ fun_ext (λ (c : Cell). go c (a.0 == c.array.0) (first + n == c.index) refl)
    where
      go : (c : Cell) (q r : Bool) → (first + n == c.index) ≡ r →
          (if q && r then Some v else if q && (part (c.index - first) && in_block first n c.index) then Some (f (c.index - first)) else old c)
          ≡ (if q && (part (c.index - first) && in_block first (n + 1) c.index) then Some (f (c.index - first)) else old c)
      go c false r e = refl
      go c true false e = elsewhere c true e
      go c true true e =
          let i = eqb-true (first + n) c.index e in
          let m : n ≡ c.index - first = omega arith in
          ap Some (is ∙ ap f m)
          ∙ sym (ap₂ (λ p w. if p && w then Some (f (c.index - first)) else old c) (part_here c e ∙ here) (last_in first n c.index i))

  pub left_here : part n ≡ false → cur ≡ next
  left_here out = so ∙ fun_ext (λ (c : Cell). go c (a.0 == c.array.0) (first + n == c.index) refl)
    where
      go : (c : Cell) (q r : Bool) → (first + n == c.index) ≡ r →
          (if q && (part (c.index - first) && in_block first n c.index) then Some (f (c.index - first)) else old c)
          ≡ (if q && (part (c.index - first) && in_block first (n + 1) c.index) then Some (f (c.index - first)) else old c)
      go c q false e = elsewhere c q e
      go c q true e =
          ap (λ p. if q && (p && in_block first n c.index) then Some (f (c.index - first)) else old c) (part_here c e ∙ out)
          ∙ sym (ap (λ p. if q && (p && in_block first (n + 1) c.index) then Some (f (c.index - first)) else old c) (part_here c e ∙ out))

  pub one_more_stored : (new : View) (v : ℕ) (p : Bool) → p ≡ part n → v ≡ f n → new ≡ (if p then with_cell cur cell v else cur) →
      IsStoredIn part first (n + 1) a.0 f old new
  one_more_stored new v true e is h = h ∙ stored_here v is (sym e)
  one_more_stored new v false e is h = h ∙ left_here (sym e)

  -- a cell that was there is there still
  pub still_there : (c : Cell) → IsSome (old c) → IsSome (cur c)
  still_there c h =
      subst (λ (view : View). IsSome (view c)) (sym so)
      (go ((a.0 == c.array.0) && some_of part first n c.index))
    where
      go : (q : Bool) → IsSome (if q then Some (f (c.index - first)) else old c)
      go true = refl
      go false = h

-- the rows as far as the numbers were stored
pub record SomeStored (part : ℕ → Bool) (first a : ℕ) (f : ℕ → ℕ) (old new : List Parts) (n : ℕ) : Type 0 where
  pub cells : IsStoredIn part first n a f (cells_kept old) (cells_kept new)
  pub stored : IsStoredIn part first n a f (parts_stored old) (parts_stored new)

pub begun : (part : ℕ → Bool) (first a : ℕ) (f : ℕ → ℕ) (rows : List Parts) → SomeStored part first a f rows rows 0
begun part first a f rows =
    record { cells = none_stored part first a f (cells_kept rows); stored = none_stored part first a f (parts_stored rows) }
