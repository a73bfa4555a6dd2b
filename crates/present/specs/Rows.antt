-- Rows: numbers for a run of cells of an array.
use Rattle.shared_row.specs.Rows.{numbers_of}
use Rattle.std.specs.Prelude.{ℕ, ◌≡◌, ◌+◌, ◌-◌, ◌==◌, Bool, true, false, List, drop, length, Option, Some, None, option_map, option_and_then, replicate, slice_get, slice_range, take, unwrap_or}
use Rattle.base.specs.declared.tree.ArrayId.{ArrayId}
use Rattle.base.specs.declared.item.Cell.{Cell}
use Rattle.base.specs.declared.item.Section.{Section}
use Rattle.base.specs.Memory.{View, is_in}
use Rattle.base.specs.Map.{Device}
use Rattle.base.specs.Rows.{at_index, if_marked}
use Rattle.present.specs.declared.block.Block.{Block}
use Rattle.present.specs.Blocks.{number_in, stored_at}

-- the marked number at an index
abbrev pub marked_at : ℕ → List ℕ → List Bool → ℕ → Option ℕ
marked_at first numbers marks i = if_marked (at_index first marks i) (at_index first numbers i)

-- the marked numbers of the cells of an array from the index `first` on
abbrev pub marked_in : ArrayId → ℕ → List ℕ → List Bool → View
marked_in a first numbers marks c =
    elim (a.0 == c.array.0) [ true ↦ marked_at first numbers marks c.index | false ↦ None ]

-- a view in which the cells that are there take these numbers
abbrev pub over : View → View → View
over numbers view c = option_map (λ old. unwrap_or (numbers c) old) (view c)

-- a device whose storage takes these numbers
abbrev pub with_numbers : View → Device → Device
with_numbers numbers d = record d { cells = over numbers d.cells }

abbrev pub cell_at : ArrayId → ℕ → Cell
cell_at a i = record { array = a; index = i }

-- each number became that of a cell, from the index `first` on, where the cell is there
abbrev pub Takes : (ℕ → Option ℕ) → ℕ → List ℕ → List ℕ → Type 0
Takes number first old new = (k : ℕ) → slice_get new k
    ≡ option_map (λ n. unwrap_or (number (first + k)) n) (slice_get old k)

-- a row took the numbers of cells of an array
abbrev pub IsLoaded : View → ArrayId → ℕ → List ℕ → List ℕ → Type 0
IsLoaded view a first old new = Takes (λ i. view (cell_at a i)) first old new

-- the numbers of a section's cells, 0 where a cell is not there
abbrev pub AreRead : View → Section → List ℕ → Type 0
AreRead view s numbers = IsLoaded view s.array s.first (replicate s.length 0) numbers

-- the numbers in one block, and in several
abbrev pub view_in : Block → View
view_in b c = elim (is_in c b.section) [ true ↦ number_in c b | false ↦ None ]

abbrev pub numbers_at : List Block → View
numbers_at bs c = option_and_then (number_in c) (stored_at bs c)

-- a block in which cells took these numbers
pub record IsStoredIn (view : View) (old new : Block) : Type 0 where
  pub section : new.section ≡ old.section
  pub count : new.count ≡ old.count
  pub same_length : length (numbers_of new.values) ≡ length (numbers_of old.values)
  pub numbers : (c : Cell) → is_in c old.section ≡ true → number_in c new ≡ over view (λ x. number_in x old) c

-- of as many blocks each such a one
pub record AreStoredIn (view : View) (old new : List Block) : Type 0 where
  pub same_length : length new ≡ length old
  pub each : (k : ℕ) (x y : Block) → slice_get old k ≡ Some x → slice_get new k ≡ Some y → IsStoredIn view x y

-- numbers that are the same where they are not marked
abbrev pub AgreeUnmarked : List ℕ → List ℕ → List Bool → Type 0
AgreeUnmarked old new marks = (k : ℕ) → slice_get marks k ≡ Some false → slice_get new k ≡ slice_get old k

-- before a place, and from another on
pub record AgreeBeside (old new : List ℕ) (from end : ℕ) : Type 0 where
  pub before : take from new ≡ take from old
  pub after : drop end new ≡ drop end old

-- a block that has the same numbers, whoever owns them
pub record HasSameNumbers (old new : Block) : Type 0 where
  pub section : new.section ≡ old.section
  pub count : new.count ≡ old.count
  pub numbers : numbers_of new.values ≡ numbers_of old.values

-- the numbers of a section that lies in a block
abbrev pub numbers_of_part : Block → Section → List ℕ
numbers_of_part b s =
    slice_range (numbers_of b.values) (s.first - b.section.first) (s.first - b.section.first + s.length)
