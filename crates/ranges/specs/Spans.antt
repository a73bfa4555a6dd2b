-- Values of loops from a least up to a greatest one.
use Rattle.std.specs.Prelude.{ℕ, ◌≡◌, ◌≤◌, List, slice_index, length}
use Rattle.base.specs.declared.tree.Expr.{Expr}
use Rattle.base.specs.declared.fault.Interval.{Interval}
use Rattle.base.specs.Interval.{interval}

-- each loop's value is none below its least and none above its greatest
pub record AreBetween (lows highs loops : List ℕ) : Type 0 where
  pub as_many : length lows ≡ length loops
  pub as_many_highs : length highs ≡ length loops
  pub low : (k : ℕ) → slice_index lows k ≤ slice_index loops k
  pub high : (k : ℕ) → slice_index loops k ≤ slice_index highs k

-- the second interval has all of the first one
pub record IsPart (a b : Interval) : Type 0 where
  pub low : b.lo ≤ a.lo
  pub high : a.hi ≤ b.hi

-- with all of these values the interval of the expression is a part of this one
abbrev pub IsBound : List ℕ → List ℕ → Expr → Interval → Type 0
IsBound lows highs e b = (loops : List ℕ) → AreBetween lows highs loops → IsPart (interval e loops) b

-- with all of these values it is that with the least ones
abbrev pub IsTheSame : List ℕ → List ℕ → Expr → Type 0
IsTheSame lows highs e = (loops : List ℕ) → AreBetween lows highs loops → interval e loops ≡ interval e lows
