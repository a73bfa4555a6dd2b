-- Loops over statements with conditions that are alike in all turns, or in each turn of so many.
use Rattle.std.specs.Prelude.{ℕ, ◌≡◌, ◌+◌, ◌-◌, ◌*◌, ◌%◌, ◌<◌, ◌≤◌, ◌^◌, Bool, List, [], ◌∷◌, ◌++◌, map}
use Rattle.base.specs.declared.tree.Bounds.{Bounds}
use Rattle.base.specs.declared.tree.Expr.{Expr}
use Rattle.base.specs.declared.tree.Stmt.{Stmt}
use Rattle.base.specs.Footprint.{Touch, turns_touch}
use Rattle.base.specs.Interval.{interval}
use Rattle.base.specs.Meaning.{turns_of}
use Rattle.ranges.specs.declared.slide.Slide.{Slide}
use Rattle.ranges.specs.Seen.{list_touches}
use Rattle.ranges.specs.Slides.{AllFit, slide_touch}

-- in a turn of these bounds the loop's name has this value
pub record IsTurn (b : Bounds) (v : ℕ) : Type 0 where
  pub from : b.first ≤ v
  pub below : v < b.end
  pub whole : (v - b.first) % b.step ≡ 0

-- the expression has one interval in all turns
abbrev pub IsSteady : List ℕ → Bounds → Expr → Type 0
IsSteady loops b e = (v : ℕ) → IsTurn b v → interval e (loops ++ v ∷ []) ≡ interval e (loops ++ b.first ∷ [])

-- slides were added that touch this in all turns, and stay in their arrays
pub record AddsSlides (lengths loops : List ℕ) (b : Bounds) (touches : List ℕ → List Touch) (old new : List Slide) : Type 0 where
  pub touch : (v : ℕ) → IsTurn b v →
      map (slide_touch (v - b.first)) new ≡ map (slide_touch (v - b.first)) old ++ touches (loops ++ v ∷ [])
  pub fit : AllFit lengths (b.end - b.first) old → AllFit lengths (b.end - b.first) new

-- so many turns of a loop are as one turn of these bounds
pub record IsBlock (b all : Bounds) (turns : ℕ) : Type 0 where
  pub first : all.first ≡ b.first
  pub ahead : all.first < all.end
  pub step : all.step ≡ b.step * turns
  pub near : all.end ≤ 2 ^ 32
  pub small : all.step ≤ 2 ^ 32

-- in each turn of these bounds the slides touch what the first turns of a loop from there on do
abbrev pub AreTurns : Bounds → ℕ → ℕ → (ℕ → List Touch) → List Slide → Type 0
AreTurns all step turns f slides =
    (v : ℕ) → IsTurn all v → map (slide_touch (v - all.first)) slides ≡ turns_touch turns v step f

-- what the body touches in a turn
abbrev pub body_at : List Stmt → List ℕ → Bool → ℕ → List Touch
body_at body loops certain v = list_touches body (loops ++ v ∷ []) certain

-- the turns of a loop are so many turns for each of some, and those of the last bounds
pub record Leaves (b all later : Bounds) (turns : ℕ) : Type 0 where
  pub count : turns * turns_of all + turns_of later ≡ turns_of b
  pub first : later.first ≡ b.first + all.step * turns_of all
  pub step : later.step ≡ b.step
