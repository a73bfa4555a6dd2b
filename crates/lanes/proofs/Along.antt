-- Turns that are moved on by a number, where no index reaches 2^64: their cells follow one another.
use Rattle.std.proofs.Common.{◌≡◌, ℕ, ◌+◌, ◌-◌, ◌<◌, ◌≤◌, ◌==◌, Bool, true, false, List, length, Some, None, refl, sym, ap, ap₂, ◌∙◌, arith, if◌then◌else◌, leb-true, ltb-true}
use Rattle.std.specs.Prelude.{nat_le, nat_lt, ◌%◌, ◌&&◌, ◌||◌}
use Rattle.std.proofs.lemmas.Bool.{and_parts}
use Rattle.std.proofs.lemmas.Bool.Decides.{nat_tests}
use Rattle.std.proofs.Math.Nat.{mod-eq_of_lt, add-mod_right}
use mathlib.Core.Path.{fun_ext}
use Rattle.base.specs.declared.item.Cell.{Cell}
use Rattle.base.specs.declared.tree.Expr.{Expr}
use Rattle.base.specs.declared.tree.Expr.TheVariants.{Number, Scalar, LoopName, Cell', Unary', Binary', And', Or', Shift', Divide'}
use Rattle.base.specs.Memory.{View, Scalars}
use Rattle.base.specs.Value.{modulus, unary, binary, shifted, divided, on_one, on_both}
use Rattle.lanes.specs.Apart.{Set, Kept, is_turn, in_block, own_value_places, with_lanes}
use Rattle.lanes.specs.Moved.{fixed_value, is_number, is_add, is_moved, moved_places}
use Rattle.lanes.proofs.Moved.{turn_at, is_below, forth_in, in_below}

pub moved_place : (u v : ℕ) → u + v < modulus → (moved_places u).place v ≡ u + v
moved_place u v h = mod-eq_of_lt h

moved_in : (u first n v i : ℕ) → u + v ≡ i → in_block first n v ≡ in_block (u + first) n i
moved_in u first n v i h = grind (arith, nat_tests)

module _ (m u first n : ℕ) (below : u < m) (le : u + first + n ≤ m) where
  exact : (i : ℕ) → u ≤ i → i < m → turn_at m u below i ≡ i - u
  exact i low high =
      let less : i - u < m = omega arith in
      let over : i + m - u ≡ i - u + m = omega arith in
      ap (λ q. if q then (i + m - u) % m else i) (is_below m u below i high)
      ∙ ap (λ x. x % m) over ∙ add-mod_right (i - u) m ∙ mod-eq_of_lt less

  -- an index in the block that is moved on is that of the turn so far before it
  turn_in : (i : ℕ) → in_block (u + first) n i ≡ true → turn_at m u below i ≡ i - u
  turn_in i h =
      let p = and_parts (nat_le (u + first) i) (nat_lt i (u + first + n)) h in
      let low = leb-true (u + first) i p.0 in
      let high = ltb-true i (u + first + n) p.1 in
      exact i (omega arith) (omega arith)

  same_in : (i : ℕ) → in_block first n (turn_at m u below i) ≡ in_block (u + first) n i
  same_in i = go (in_block (u + first) n i) (in_block first n (turn_at m u below i)) refl refl
    where
      go : (q r : Bool) → in_block (u + first) n i ≡ q → in_block first n (turn_at m u below i) ≡ r →
          in_block first n (turn_at m u below i) ≡ in_block (u + first) n i
      go true r h k =
          let p = and_parts (nat_le (u + first) i) (nat_lt i (u + first + n)) h in
          let low = leb-true (u + first) i p.0 in
          let whole : u + (i - u) ≡ i = omega arith in
          ap (in_block first n) (turn_in i h) ∙ moved_in u first n (i - u) i whole
      go false true h k =
          let less = in_below first n (turn_at m u below i) (m - u) (omega arith) k in
          let sum : u + turn_at m u below i < m = omega arith in
          moved_in u first n (turn_at m u below i) i
          (sym (mod-eq_of_lt sum) ∙ forth_in m u below first n i (omega arith) k)
      go false false h k = k ∙ sym h

-- what such turns store is what the turns of the block that is moved on store at their own values
pub moved_lanes : (u first n a : ℕ) (f : ℕ → ℕ) (view : View) → u < modulus → u + first + n ≤ modulus →
    with_lanes (moved_places u) (in_block first n) a f view
    ≡ with_lanes own_value_places (in_block (u + first) n) a (λ i. f (i - u)) view
moved_lanes u first n a f view below le = fun_ext (λ (c : Cell). go c (a == c.array.0))
  where
    at : (c : Cell) (q : Bool) → in_block (u + first) n c.index ≡ q →
        (if q then Some (f (turn_at modulus u below c.index)) else view c) ≡ (if q then Some (f (c.index - u)) else view c)
    at c true h = ap (λ i. Some (f i)) (turn_in modulus u first n below le c.index h)
    at c false h = refl

    go : (c : Cell) (p : Bool) →
        (if p && in_block first n (turn_at modulus u below c.index) then Some (f (turn_at modulus u below c.index)) else view c)
        ≡ (if p && in_block (u + first) n c.index then Some (f (c.index - u)) else view c)
    go c true =
        ap (λ q. if q then Some (f (turn_at modulus u below c.index)) else view c) (same_in modulus u first n below le c.index)
        ∙ at c (in_block (u + first) n c.index) refl
    go c false = refl

-- the same indices are such after turns that leave the other scalars
module _ (own : Set) (before after : Scalars) (outer : List ℕ) (kept : Kept own before after) where
  fixed_same : (e : Expr) → fixed_value own after outer e ≡ fixed_value own before outer e
  fixed_same (Number n) = refl
  fixed_same (Scalar x) = go (own x.0) refl
    where
      go : (q : Bool) → own x.0 ≡ q →
          (if q then None else Some (after x.0)) ≡ (if q then None else Some (before x.0))
      go true h = refl
      go false h = ap Some (kept x.0 h)
  fixed_same (LoopName l) = refl
  fixed_same (Cell' a place p e) = refl
  fixed_same (Unary' op p e) = ap (on_one (unary op)) (fixed_same e)
  fixed_same (Binary' op p e q f) = ap₂ (on_both (binary op)) (fixed_same e) (fixed_same f)
  fixed_same (And' p e q f) = refl
  fixed_same (Or' p e q f) = refl
  fixed_same (Shift' op p e n) = ap (on_one (λ x. shifted op x n.count)) (fixed_same e)
  fixed_same (Divide' op p e n) = ap (on_one (λ x. divided op x n.value)) (fixed_same e)

  pub moved_same : (u : ℕ) (e : Expr) → is_moved own after outer u e ≡ is_moved own before outer u e
  moved_same u (Number n) = refl
  moved_same u (Scalar x) = refl
  moved_same u (LoopName l) = refl
  moved_same u (Cell' a place p e) = refl
  moved_same u (Unary' op p e) = refl
  moved_same u (Binary' op p e q f) =
      ap₂ (λ o w. is_add op
      && ((is_number u o && is_turn (length outer) f) || (is_turn (length outer) e && is_number u w)))
      (fixed_same e) (fixed_same f)
  moved_same u (And' p e q f) = refl
  moved_same u (Or' p e q f) = refl
  moved_same u (Shift' op p e n) = refl
  moved_same u (Divide' op p e n) = refl
