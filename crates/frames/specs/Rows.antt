-- Rows that have the cells of a view.
use Rattle.std.specs.Prelude.{ℕ, ◌≡◌, ◌<◌, ◌≤◌, ◌^◌, List, [], length, Option, Some, None, slice_get, if◌then◌else◌}
use Rattle.base.specs.declared.item.Section.{Section}
use Rattle.base.specs.declared.tree.ArrayId.{ArrayId}
use Rattle.base.specs.Memory.{View, is_in}
use Rattle.kernel.specs.declared.frames.Row.{Row}
use Rattle.base.specs.Rows.{at_index}
use Rattle.present.specs.Rows.{AreRead}
use Rattle.shared_row.specs.Rows.{numbers_in, room_in}
use Rattle.ranges.specs.Reach.{cell_of}

-- what is in a run of cells of a view
abbrev pub in_run : View → Section → ℕ → Option ℕ
in_run view s i = if is_in (cell_of s.array.0 i) s then view (cell_of s.array.0 i) else None

-- numbers below 2^64
abbrev pub AreNumbers : List ℕ → Type 0
AreNumbers xs = (k n : ℕ) → slice_get xs k ≡ Some n → n < 2 ^ 64

-- the row has the cells of a run, with numbers below 2^64
pub record IsRow (view : View) (s : Section) (r : Row) : Type 0 where
  pub cells : (i : ℕ) → at_index r.first (numbers_in r.cells) i ≡ in_run view s i
  pub bounded : AreNumbers (numbers_in r.cells)

-- each of these rows is one of the run at its place
abbrev pub AreEach : (Section → Row → Type 0) → List Section → List Row → Type 0
AreEach is reach rows = (a : ℕ) (s : Section) (r : Row) → slice_get reach a ≡ Some s → slice_get rows a ≡ Some r → is s r

-- for each run such a row
pub record AreRows (is : Section → Row → Type 0) (reach : List Section) (rows : List Row) : Type 0 where
  pub count : length rows ≡ length reach
  pub each : AreEach is reach rows

-- a row without cells, with room for those of a run
pub record HasRoom (s : Section) (r : Row) : Type 0 where
  pub first : r.first ≡ s.first
  pub empty : numbers_in r.cells ≡ []
  pub room : s.length ≤ room_in r.cells

-- a row that had room for the cells of a run has them, with the numbers of a view, and 0 where that has none
pub record IsLoaded (view : View) (s : Section) (old new : Row) : Type 0 where
  pub first : new.first ≡ old.first
  pub begins : new.first ≡ s.first
  pub count : length (numbers_in new.cells) ≡ s.length
  pub fits : length (numbers_in new.cells) ≤ room_in old.cells
  pub numbers : AreRead view s (numbers_in new.cells)
  pub bounded : AreNumbers (numbers_in new.cells)

-- rows with as many cells as others have room for
pub record FitIn (old new : List Row) : Type 0 where
  pub count : length new ≡ length old
  pub first : (a : ℕ) (x y : Row) → slice_get old a ≡ Some x → slice_get new a ≡ Some y → y.first ≡ x.first
  pub fits : (a : ℕ) (x y : Row) → slice_get old a ≡ Some x → slice_get new a ≡ Some y →
      length (numbers_in y.cells) ≤ room_in x.cells

-- so many cells of an array from an index on
abbrev pub run_from : ArrayId → ℕ → ℕ → Section
run_from a first count = record { array = a; first = first; length = count }
