-- Accesses whose cell moves on in each turn of a loop by a multiple of what the loop's name does.
use Rattle.std.specs.Prelude.{ℕ, zero, suc, ◌≡◌, ◌+◌, ◌-◌, ◌*◌, ◌^◌, ◌<◌, ◌≤◌, ◌==◌, min, None, Bool, false, List, [], ◌∷◌, ◌++◌, map, length, slice_index, ◌&&◌, ◌||◌, not, cond, ◌⊎◌, if◌then◌else◌}
use Rattle.base.specs.declared.tree.Bounds.{Bounds}
use Rattle.base.specs.Footprint.{Touch}
use Rattle.base.specs.Interval.{exactly}
use Rattle.base.specs.declared.fault.Interval.{Interval}
use Rattle.base.specs.declared.tree.ArrayId.{ArrayId}
use Rattle.ranges.specs.declared.access.Access.{Access}
use Rattle.ranges.specs.declared.slide.Slide.{Slide}
use Rattle.base.specs.declared.item.Cell.{Cell}
use Rattle.base.specs.Meaning.{turns_left}
use Rattle.ranges.specs.Rows.{is_within}
use Rattle.ranges.specs.Seen.{Seen}
use Rattle.ranges.specs.Straight.{touch_at}

-- what it touches once the loop's name has moved on by x
abbrev pub slide_touch : ℕ → Slide → Touch
slide_touch x s = record {
  array = s.array;
  cells = exactly (s.start + s.slope * x);
  is_write = s.writes;
  certain = s.certain;
  combines = None;
  place = s.place;
}

-- n turns, in each of which the loop's name moves on by this step, from where it has moved on by x
abbrev pub slide_turns : ℕ → ℕ → ℕ → List Slide → List Touch
slide_turns step zero x slides = []
slide_turns step (suc n) x slides = map (slide_touch x) slides ++ slide_turns step n (x + step) slides

-- n turns from x on stay below the end
abbrev pub AreBelow : ℕ → ℕ → ℕ → ℕ → Type 0
AreBelow step end zero x = Unit {0}
AreBelow step end (suc n) x = (x < end) × AreBelow step end n (x + step)

-- it moves on, and stays in its array while the loop's name has moved on by less than this
pub record Fits (lengths : List ℕ) (count : ℕ) (s : Slide) : Type 0 where
  pub moves : 1 ≤ s.slope
  pub small : s.slope ≤ 2 ^ 31
  pub inside : s.start + s.slope * (count - 1) < slice_index lengths s.array.0

abbrev pub AllFit : List ℕ → ℕ → List Slide → Type 0
AllFit lengths count [] = Unit {0}
AllFit lengths count (s ∷ slides) = Fits lengths count s × AllFit lengths count slides

-- by how much the first of those of an array moves on
abbrev pub slope_in : List Slide → ℕ → ℕ
slope_in [] a = 0
slope_in (s ∷ slides) a = if s.array.0 == a then s.slope else slope_in slides a

-- by how much each moves on is told by its array
abbrev pub AllMoveBy : (ℕ → ℕ) → List Slide → Type 0
AllMoveBy f [] = Unit {0}
AllMoveBy f (s ∷ slides) = (s.slope ≡ f s.array.0) × AllMoveBy f slides

-- those of one array move on by as much
abbrev pub AreAlike : List Slide → Type 0
AreAlike slides = AllMoveBy (slope_in slides) slides

-- in the turns of these bounds the access touches what the slide does
abbrev pub IsSlideOf : List ℕ → Bounds → Bool → Access → Slide → Type 0
IsSlideOf loops b certain a s =
    (v : ℕ) → b.first ≤ v → v < b.end → touch_at (loops ++ v ∷ []) certain a ≡ slide_touch (v - b.first) s

abbrev pub AreSlidesOf : List ℕ → Bounds → Bool → List Access → List Slide → Type 0
AreSlidesOf loops b certain [] [] = Unit {0}
AreSlidesOf loops b certain [] (s ∷ slides) = ⊥
AreSlidesOf loops b certain (a ∷ accesses) [] = ⊥
AreSlidesOf loops b certain (a ∷ accesses) (s ∷ slides) =
    IsSlideOf loops b certain a s × AreSlidesOf loops b certain accesses slides

-- each begins below this cell
abbrev pub AllStart : ℕ → List Slide → Type 0
AllStart x [] = Unit {0}
AllStart x (s ∷ slides) = (s.start < x) × AllStart x slides

-- one of some slides was taken: of those with the greatest first cell the first one
pub record IsTaken (old : List Slide) (s : Slide) (new : List Slide) : Type 0 where
  pub before : List Slide
  pub behind : List Slide
  pub old_is : old ≡ before ++ s ∷ behind
  pub new_is : new ≡ before ++ behind
  pub less : AllStart s.start before
  pub no_more : AllStart (s.start + 1) behind

-- where each begins
abbrev pub starts : List Slide → List ℕ
starts slides = map (λ s. s.start) slides

-- of those with the greatest first cell the first one stands at p
pub record IsLatest (firsts : List ℕ) (p : ℕ) : Type 0 where
  pub inside : p < length firsts
  pub less : (i : ℕ) → i < p → slice_index firsts i < slice_index firsts p
  pub no_more : (i : ℕ) → i < length firsts → slice_index firsts i ≤ slice_index firsts p

-- which of two is the later one
abbrev pub IsLater : List ℕ → ℕ → ℕ → ℕ → Type 0
IsLater firsts l i m =
    ((m ≡ i) × (slice_index firsts l < slice_index firsts i)) ⊎ ((m ≡ l) × (slice_index firsts i ≤ slice_index firsts l))

-- what cells add that are written, or read
abbrev pub with_written : Bool → (Cell → Bool) → Seen → Seen
with_written certain p x = record x {
  write = λ c. x.write c || p c;
  sure = λ c. x.sure c || (certain && p c);
}

abbrev pub with_read_of : (Cell → Bool) → Seen → Seen
with_read_of p x = record x {
  exposed = λ c. x.exposed c || (p c && not (x.sure c));
  read = λ c. x.read c || p c;
}

abbrev pub with_run : Slide → (Cell → Bool) → Seen → Seen
with_run s p x = cond s.writes (with_written s.certain p x) (with_read_of p x)

-- whether a number is one of n, of which the first is this, and each other one by the step more than the one before it
abbrev pub is_every : ℕ → ℕ → ℕ → ℕ → Bool
is_every step zero x i = false
is_every step (suc n) x i = (x == i) || is_every step n (x + step) i

-- whether it is the value of a loop's name in a turn
abbrev pub is_turn : Bounds → ℕ → Bool
is_turn b i = is_every b.step (turns_left b.first b) b.first i

-- the same numbers as an interval
pub record IsWhole (b : Bounds) (cells : Interval) : Type 0 where
  pub few : cells.hi < 2 ^ 32
  pub same : (i : ℕ) → is_within cells i ≡ is_turn b i

-- whether a cell is one of the array in such a place
abbrev pub is_in_turn : ArrayId → Bounds → Cell → Bool
is_in_turn a b c = (a.0 == c.array.0) && is_turn b c.index

-- some turns of a loop, and those that come after them
pub record AreSplit (b now later : Bounds) (turns : ℕ) : Type 0 where
  pub first : now.first ≡ b.first
  pub now_step : now.step ≡ b.step
  pub later_step : later.step ≡ b.step
  pub meet : later.first ≡ now.end
  pub end : later.end ≡ b.end
  pub ahead : b.first < now.end
  pub middle : now.end ≡ min (b.first + b.step * turns) b.end
