-- Touches of which nothing new is seen.
use Rattle.std.specs.Prelude.{ℕ, ◌≡◌, Bool, true, false, ◌&&◌, List, [], ◌∷◌}
use Rattle.base.specs.declared.tree.ArrayId.{ArrayId}
use Rattle.base.specs.declared.item.Cell.{Cell}
use Rattle.base.specs.declared.fault.Interval.{Interval}
use Rattle.base.specs.Footprint.{Touch}
use Rattle.base.specs.declared.tree.Expr.{Expr}
use Rattle.base.specs.Interval.{interval, is_known_nonzero, is_known_zero, is_single}
use Rattle.ranges.specs.declared.settled.Told.{Told}
use Rattle.ranges.specs.Cells.{is_among}
use Rattle.ranges.specs.Seen.{Seen, leaves}
use Rattle.ranges.specs.Spans.{AreBetween}

-- the cell was seen to be written, and surely so where that is certain, or to be read
abbrev pub IsSeen : Bool → Bool → Seen → Cell → Type 0
IsSeen true certain s c = (s.write c ≡ true) × (certain ≡ true → s.sure c ≡ true)
IsSeen false certain s c = s.read c ≡ true

-- these cells lie in their array, and all of them were seen
pub record AreSettled (lengths : List ℕ) (s : Seen) (a : ArrayId) (cells : Interval) (writes certain : Bool) : Type 0 where
  pub stays : leaves lengths a cells ≡ false
  pub seen : (c : Cell) → is_among a cells c ≡ true → IsSeen writes certain s c

-- nothing new is seen of the touch
abbrev pub IsSettled : List ℕ → Seen → Touch → Type 0
IsSettled lengths s t = AreSettled lengths s t.array t.cells t.is_write (t.certain && is_single t.cells)

abbrev pub AllSettled : List ℕ → Seen → List Touch → Type 0
AllSettled lengths s [] = Unit {0}
AllSettled lengths s (t ∷ ts) = IsSettled lengths s t × AllSettled lengths s ts

-- nothing new is seen of these touches with all of these values of the loops, certain or not
abbrev pub Settles : List ℕ → Seen → List ℕ → List ℕ → Bool → (List ℕ → Bool → List Touch) → Type 0
Settles lengths s lows highs certain touches =
    (loops : List ℕ) (d : Bool) → AreBetween lows highs loops → (d ≡ true → certain ≡ true) →
    AllSettled lengths s (touches loops d)

-- what is told of a condition is so with all of these values of the loops
pub record Tells (lows highs : List ℕ) (c : Expr) (told : Told) : Type 0 where
  pub fails : told.fails ≡ true → (loops : List ℕ) → AreBetween lows highs loops → is_known_zero (interval c loops) ≡ true
  pub holds : told.holds ≡ true → (loops : List ℕ) → AreBetween lows highs loops → is_known_nonzero (interval c loops) ≡ true
  pub may_fail : (loops : List ℕ) → AreBetween lows highs loops → is_known_zero (interval c loops) ≡ true → told.may_fail ≡ true
  pub may_hold : (loops : List ℕ) → AreBetween lows highs loops → is_known_nonzero (interval c loops) ≡ true → told.may_hold ≡ true
