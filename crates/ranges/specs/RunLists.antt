-- Sets of cells as runs.
use Rattle.std.specs.Prelude.{ℕ, ◌≡◌, ◌+◌, ◌<◌, ◌≤◌, Bool, true, false, ◌&&◌, ◌||◌, ◌==◌, nat_lt, List, [], ◌∷◌, ◌⊎◌}
use Rattle.std.specs.List.{AllByRecursion, list_any}
use Rattle.base.specs.declared.item.Cell.{Cell}
use Rattle.bits.specs.Sets.{is_from}
use Rattle.ranges.specs.declared.cells.CellSet.{CellSet}
use Rattle.ranges.specs.declared.cells.Footprint.{Footprint}
use Rattle.ranges.specs.declared.run_list.Part.{Part}
use Rattle.ranges.specs.declared.run_list.Part.TheVariants.{Exposed, Read, Write, Sure}
use Rattle.ranges.specs.declared.run_list.Run.{Run}
use Rattle.ranges.specs.Reach.{cell_of}

abbrev pub set_of : Part → Footprint → CellSet
set_of Exposed f = f.exposed
set_of Read f = f.read
set_of Write f = f.write
set_of Sure f = f.sure

-- one past the last cell
abbrev pub end_of_run : Run → ℕ
end_of_run r = r.first + r.length

-- whether the cell is one of the run
abbrev pub is_in_run : Cell → Run → Bool
is_in_run c r = (r.array.0 == c.array.0) && is_from r.first (end_of_run r) c.index

-- the run ends before this cell of the array, and at least one cell lies between them where it is of that array
abbrev pub EndsBefore : ℕ → ℕ → Run → Type 0
EndsBefore a i r = (r.array.0 < a) ⊎ ((r.array.0 ≡ a) × (end_of_run r < i))

-- each run ends before those after it
abbrev pub AreApart : List Run → Type 0
AreApart [] = Unit {0}
AreApart (r ∷ runs) = AllByRecursion (λ s. EndsBefore s.array.0 s.first r) runs × AreApart runs

-- the maximal runs of the cells that pass a test, by array and then by cell
pub record AreRuns (p : Cell → Bool) (runs : List Run) : Type 0 where
  pub some : AllByRecursion (λ r. 1 ≤ r.length) runs
  pub apart : AreApart runs
  pub cells : (c : Cell) → list_any (is_in_run c) runs ≡ p c

-- whether a cell is before this cell of the array
abbrev pub is_earlier : ℕ → ℕ → Cell → Bool
is_earlier a i c = nat_lt c.array.0 a || ((c.array.0 == a) && nat_lt c.index i)

-- the same of the cells before one of an array
pub record AreRunsUpTo (p : Cell → Bool) (a from : ℕ) (runs : List Run) : Type 0 where
  pub some : AllByRecursion (λ r. 1 ≤ r.length) runs
  pub apart : AreApart runs
  pub arrays : AllByRecursion (λ r. r.array.0 ≤ a) runs
  pub next : (i : ℕ) → from ≤ i → p (cell_of a i) ≡ true → AllByRecursion (EndsBefore a i) runs
  pub cells : (c : Cell) → list_any (is_in_run c) runs ≡ (p c && is_earlier a from c)

-- the numbers from the first up to this one pass a test, and this one does not
pub record IsEndOfRun (p : ℕ → Bool) (first after : ℕ) : Type 0 where
  pub some : first < after
  pub inside : (i : ℕ) → first ≤ i → i < after → p i ≡ true
  pub behind : p after ≡ false

-- a set of cells has one list of maximal runs
abbrev pub AreUnique : Type 0
AreUnique = (p : Cell → Bool) (a b : List Run) → AreRuns p a → AreRuns p b → a ≡ b
