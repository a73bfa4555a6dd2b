-- By how many cells accesses move on with the name of one of the loops around.
use Rattle.std.specs.Prelude.{ℕ, zero, suc, ◌≡◌, ◌+◌, ◌-◌, ◌*◌, ◌<◌, ◌≤◌, Bool, true, false, List, [], ◌∷◌, ◌++◌, Some, None, length, slice_index}
use Rattle.std.specs.List.{list_any}
use Rattle.base.specs.declared.tree.ArrayId.{ArrayId}
use Rattle.base.specs.declared.tree.Bounds.{Bounds}
use Rattle.base.specs.declared.tree.Expr.{Expr}
use Rattle.base.specs.declared.tree.Stmt.{Stmt}
use Rattle.base.specs.declared.item.Cell.{Cell}
use Rattle.base.specs.declared.fault.Interval.{Interval}
use Rattle.base.specs.Footprint.{Touch, has_cell}
use Rattle.base.specs.Interval.{interval}
use Rattle.base.specs.Turns.{only_loop}
use Rattle.ranges.specs.declared.stride.Stride.{Stride}
use Rattle.ranges.specs.declared.touched.Asked.{Asked}
use Rattle.ranges.specs.declared.touched.Touched.{Touched}
use Rattle.ranges.specs.declared.touched.Touched.TheVariants as touched
use Rattle.ranges.specs.Seen.{list_touches}
use Rattle.ranges.specs.Spans.{AreBetween}

-- but for a multiple of m, these cells lie where the stride says with the loop's name this far ahead
pub record IsWithin (m : ℕ) (w : Stride) (s : ℕ) (x : Interval) : Type 0 where
  pub times : ℕ
  pub low : m * times + (w.lo + w.by * s) ≤ x.lo
  pub high : x.hi ≤ m * times + (w.hi + w.by * s)

-- how far the name of the loop at this level is ahead of its first value
abbrev pub ahead : List ℕ → ℕ → List ℕ → ℕ
ahead lows level loops = slice_index loops level - slice_index lows level

-- with all of these values of the loops the expression lies so
abbrev pub Strides : ℕ → ℕ → List ℕ → List ℕ → Expr → Stride → Type 0
Strides m level lows highs e w = (loops : List ℕ) → AreBetween lows highs loops →
    IsWithin m w (ahead lows level loops) (interval e loops)

-- with all of these values it is one number
abbrev pub IsExact : Expr → Type 0
IsExact e = (loops : List ℕ) → (interval e loops).hi ≡ (interval e loops).lo

-- the touch is one of another array, or lies so
abbrev pub IsHeld : Asked → Touched → ℕ → Touch → Type 0
IsHeld q touched.Nothing s t = t.array.0 ≡ q.array.0 → ⊥
IsHeld q (touched.Within w) s t = t.array.0 ≡ q.array.0 → IsWithin q.modulus w s t.cells
IsHeld q touched.Anywhere s t = Unit {0}

abbrev pub AllHeld : Asked → Touched → ℕ → List Touch → Type 0
AllHeld q h s [] = Unit {0}
AllHeld q h s (t ∷ ts) = IsHeld q h s t × AllHeld q h s ts

-- so do these touches, with all of these values of the loops
abbrev pub Holds : Asked → List ℕ → List ℕ → Touched → (List ℕ → Bool → List Touch) → Type 0
Holds q lows highs h touches = (loops : List ℕ) (certain : Bool) → AreBetween lows highs loops →
    AllHeld q h (ahead lows q.level loops) (touches loops certain)

-- whatever is held of a touch by the one is held of it by the other
abbrev pub HoldsAsMuch : Touched → Touched → Type 0
HoldsAsMuch h k = (q : Asked) (s : ℕ) (t : Touch) → IsHeld q h s t → IsHeld q k s t

-- the value is that of the loop's name in a turn
pub record IsTurn (b : Bounds) (v : ℕ) : Type 0 where
  pub turn : ℕ
  pub value : v ≡ b.first + b.step * turn
  pub inside : v < b.end

-- where the loop's name differs the cells do
abbrev pub KeepsApart : ℕ → Stride → Bounds → Type 0
KeepsApart m w b = (u v c : ℕ) (x y : Interval) → IsTurn b u → IsTurn b v → IsWithin m w (u - b.first) x →
    IsWithin m w (v - b.first) y → x.lo ≤ c → c ≤ x.hi → y.lo ≤ c → c ≤ y.hi → u ≡ v

-- the statements touch the cell
abbrev pub touch : List Stmt → List ℕ → Cell → Bool
touch body loops c = list_any (has_cell c) (list_touches body loops true)

-- turns that touch one cell of the array agree in the name of the loop at this level
abbrev pub Apart : ℕ → ℕ → Bounds → List Stmt → List ℕ → List ℕ → Type 0
Apart a level b body lows highs = (xs ys : List ℕ) (c : Cell) → AreBetween lows highs xs → AreBetween lows highs ys →
    IsTurn b (slice_index xs level) → IsTurn b (slice_index ys level) → c.array.0 ≡ a →
    touch body xs c ≡ true → touch body ys c ≡ true → slice_index xs level ≡ slice_index ys level

-- they agree in the names of the d outermost loops of these statements, of which the first is at this level
abbrev pub AllApart : ℕ → ℕ → ℕ → List Stmt → List Stmt → List ℕ → List ℕ → Type 0
AllApart a level zero nest body lows highs = Unit {0}
AllApart a level (suc d) nest body lows highs = elim (only_loop nest) [
  | None ↦ Unit {0}
  | Some l ↦ Apart a level l.0 body lows highs × AllApart a (level + 1) d l.1 body lows highs
]

-- the first and the last value that the names of the d outermost loops of these statements may have
abbrev pub nest_lows : ℕ → List Stmt → List ℕ
nest_lows zero nest = []
nest_lows (suc d) nest = elim (only_loop nest) [
  | None ↦ []
  | Some l ↦ l.0.first ∷ nest_lows d l.1
]

abbrev pub nest_highs : ℕ → List Stmt → List ℕ
nest_highs zero nest = []
nest_highs (suc d) nest = elim (only_loop nest) [
  | None ↦ []
  | Some l ↦ (l.0.end - 1) ∷ nest_highs d l.1
]

-- the loops of a nest are those from this level on, with these first values
abbrev pub NestAt : ℕ → List Stmt → ℕ → List ℕ → Type 0
NestAt d nest level lows = (around : List ℕ) × ((lows ≡ around ++ nest_lows d nest) × (level ≡ length around))
