-- Runs of cells of the arrays that have the cells which a region may touch.
use Rattle.std.specs.Prelude.{ℕ, ◌≡◌, ◌≤◌, Bool, true, false, List, length, Some, None, slice_get, slice_index, if◌then◌else◌}
use Rattle.base.specs.declared.item.Cell.{Cell}
use Rattle.base.specs.declared.item.Section.{Section}
use Rattle.base.specs.Memory.{View, end_of, is_in}
use Rattle.base.specs.Footprint.{Touch}
use Rattle.ranges.specs.Reach.{AreOfArrays, is_touched}

-- for each array of these lengths a run of its cells
pub record AreRuns (lengths : List ℕ) (reach : List Section) : Type 0 where
  pub count : length reach ≡ length lengths
  pub of_arrays : AreOfArrays reach
  pub within : (a : ℕ) (s : Section) → slice_get reach a ≡ Some s → 1 ≤ s.length → end_of s ≤ slice_index lengths a

-- whether the cell is one of the run of its array
abbrev pub is_reached : List Section → Cell → Bool
is_reached reach c = elim (slice_get reach c.array.0) [ None ↦ false | Some s ↦ is_in c s ]

-- what is in reach of a view
abbrev pub in_reach : List Section → View → View
in_reach reach view c = if is_reached reach c then view c else None

-- each touched cell is in reach
abbrev pub HasTouched : List Section → List Touch → Type 0
HasTouched reach touches = (c : Cell) → is_touched touches c ≡ true → is_reached reach c ≡ true
