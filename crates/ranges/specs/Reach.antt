-- The cells that a region may touch, and the least run of cells of each array that has them.
use Rattle.std.specs.Prelude.{ℕ, ◌≡◌, ◌-◌, ◌<◌, ◌≤◌, Bool, true, ◌||◌, List, length, Some, slice_get}
use Rattle.base.specs.declared.item.Cell.{Cell}
use Rattle.base.specs.declared.item.Section.{Section}
use Rattle.base.specs.Memory.{end_of}
use Rattle.base.specs.Footprint.{Touch, reads, writes}
use Rattle.ranges.specs.declared.cells.Footprint.{Footprint}
use Rattle.ranges.specs.Cells.{has}

-- the region may read or write the cell
abbrev pub is_touched : List Touch → Cell → Bool
is_touched touches c = reads touches c || writes touches c

-- the same of a footprint
abbrev pub touched_by : Footprint → Cell → Bool
touched_by f c = has f.read c || has f.write c

abbrev pub cell_of : ℕ → ℕ → Cell
cell_of a i = record { array = record { 0 = a }; index = i }

-- the least run of places at which a test holds
pub record IsLeastRun (p : ℕ → Bool) (s : Section) : Type 0 where
  pub from : (i : ℕ) → p i ≡ true → s.first ≤ i
  pub below : (i : ℕ) → p i ≡ true → i < end_of s
  pub first : 1 ≤ s.length → p s.first ≡ true
  pub last : 1 ≤ s.length → p (end_of s - 1) ≡ true

-- the first place at which a test holds, or the end where it holds at none
pub record IsFirstOr (p : ℕ → Bool) (end n : ℕ) : Type 0 where
  pub within : n ≤ end
  pub from : (i : ℕ) → p i ≡ true → n ≤ i
  pub holds : n < end → p n ≡ true

-- each section is one of the array at its place
abbrev pub AreOfArrays : List Section → Type 0
AreOfArrays reach = (a : ℕ) (s : Section) → slice_get reach a ≡ Some s → s.array.0 ≡ a

-- for each of so many arrays the least run of its cells that pass a test
pub record AreLeastRuns (p : Cell → Bool) (arrays : ℕ) (reach : List Section) : Type 0 where
  pub count : length reach ≡ arrays
  pub of_arrays : AreOfArrays reach
  pub least : (a : ℕ) (s : Section) → slice_get reach a ≡ Some s → IsLeastRun (λ i. p (cell_of a i)) s
