-- Indices that are the loop's value and a number that no turn changes, as those along a row of a matrix.
use Rattle.std.specs.Prelude.{ℕ, ◌+◌, ◌-◌, ◌%◌, ◌<◌, ◌≤◌, nat_lt, if◌then◌else◌, Bool, true, false, ◌&&◌, ◌||◌, ◌==◌, List, length, Option, Some, None, slice_index}
use Rattle.base.specs.declared.tree.BinaryOp.{BinaryOp}
use Rattle.base.specs.declared.tree.BinaryOp.TheVariants.{BitOr, BitXor, BitAnd, Equal, NotEqual, Less, LessOrEqual, Greater, GreaterOrEqual, Add, Subtract, Multiply}
use Rattle.base.specs.declared.tree.Expr.{Expr}
use Rattle.base.specs.declared.tree.Expr.TheVariants.{Number, Scalar, LoopName, Cell', Unary', Binary', And', Or', Shift', Divide'}
use Rattle.base.specs.Memory.{Scalars}
use Rattle.base.specs.Value.{modulus, unary, binary, shifted, divided, on_one, on_both}
use Rattle.lanes.specs.Apart.{Set, is_turn, Places, own_value_places, NamesPlaces, HavePlaces, in_block}

-- the value of an expression that no turn changes, if it is one: it names no cell, no scalar of the turn, and of the loops
-- only those around
abbrev pub fixed_value : Set → Scalars → List ℕ → Expr → Option ℕ
fixed_value own before outer (Number n) = Some (n % modulus)
fixed_value own before outer (Scalar x) = if own x.0 then None else Some (before x.0)
fixed_value own before outer (LoopName l) = if nat_lt l (length outer) then Some (slice_index outer l) else None
fixed_value own before outer (Cell' a place p e) = None
fixed_value own before outer (Unary' op p e) = on_one (unary op) (fixed_value own before outer e)
fixed_value own before outer (Binary' op p e q f) =
    on_both (binary op) (fixed_value own before outer e) (fixed_value own before outer f)
fixed_value own before outer (And' p e q f) = None
fixed_value own before outer (Or' p e q f) = None
fixed_value own before outer (Shift' op p e n) = on_one (λ x. shifted op x n.count) (fixed_value own before outer e)
fixed_value own before outer (Divide' op p e n) = on_one (λ x. divided op x n.value) (fixed_value own before outer e)

abbrev pub is_number : ℕ → Option ℕ → Bool
is_number u None = false
is_number u (Some n) = n == u

abbrev pub is_add : BinaryOp → Bool
is_add BitOr = false
is_add BitXor = false
is_add BitAnd = false
is_add Equal = false
is_add NotEqual = false
is_add Less = false
is_add LessOrEqual = false
is_add Greater = false
is_add GreaterOrEqual = false
is_add Add = true
is_add Subtract = false
is_add Multiply = false

-- whether an index is the sum of such an expression of this value and of the loop's value, in either order
abbrev pub is_moved : Set → Scalars → List ℕ → ℕ → Expr → Bool
is_moved own before outer u (Number n) = false
is_moved own before outer u (Scalar x) = false
is_moved own before outer u (LoopName l) = false
is_moved own before outer u (Cell' a place p e) = false
is_moved own before outer u (Unary' op p e) = false
is_moved own before outer u (Binary' op p e q f) =
    is_add op
    && ((is_number u (fixed_value own before outer e) && is_turn (length outer) f)
    || (is_turn (length outer) e && is_number u (fixed_value own before outer f)))
is_moved own before outer u (And' p e q f) = false
is_moved own before outer u (Or' p e q f) = false
is_moved own before outer u (Shift' op p e n) = false
is_moved own before outer u (Divide' op p e n) = false

-- each turn at its value and this number, modulo 2^64
abbrev pub moved_places : ℕ → Places
moved_places u =
    record {
      place = λ v. (u + v) % modulus;
      turn_of = λ i. if nat_lt i modulus then (i + modulus - u) % modulus else i;
    }

-- the loop's own value names such places, and they are the turns' own
abbrev pub OwnValuePlaces : Type 0
OwnValuePlaces =
    (own : Set) (before : Scalars) (outer : List ℕ) (inside : ℕ → Bool) →
    NamesPlaces (is_turn (length outer)) own_value_places own before outer × HavePlaces inside own_value_places

-- so it is for the turns of a block that are moved on
abbrev pub MovedPlaces : Type 0
MovedPlaces =
    (own : Set) (before : Scalars) (outer : List ℕ) (u first count : ℕ) → u < modulus → first + count ≤ modulus →
    NamesPlaces (is_moved own before outer u) (moved_places u) own before outer
    × HavePlaces (in_block first count) (moved_places u)
