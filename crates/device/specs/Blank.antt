-- A frame without its cells, with room for them.
use Rattle.std.specs.Prelude.{◌≡◌, ◌≤◌, ℕ, List, [], Some, length, slice_get}
use Rattle.kernel.specs.declared.frames.Frame.{Frame}
use Rattle.kernel.specs.declared.frames.Row.{Row}
use Rattle.shared_row.specs.Rows.{numbers_in, room_in}
use Rattle.device.specs.Standing.{Issue}

-- such a row, by the first place and the numbers that it is for
pub record IsBlankRow (p : ℕ × List ℕ) (r : Row) : Type 0 where
  pub first : r.first ≡ p.0
  pub cells : numbers_in r.cells ≡ []
  pub room : length p.1 ≤ room_in r.cells

-- such rows
pub record AreBlankRows (ps : List (ℕ × List ℕ)) (rs : List Row) : Type 0 where
  pub count : length rs ≡ length ps
  pub each : (k : ℕ) (p : ℕ × List ℕ) (r : Row) → slice_get ps k ≡ Some p → slice_get rs k ≡ Some r → IsBlankRow p r

-- such a frame
pub record IsBlank (p : Issue) (f : Frame) : Type 0 where
  pub item : f.item ≡ p.item
  pub loops : f.loops.now.values.items ≡ p.loops
  pub scalars : f.scalars ≡ p.scalars
  pub rows : AreBlankRows p.rows f.rows.items
  pub input : f.input.now ≡ p.input

-- a row without cells, with the room of another
pub record HasRoomOf (x r : Row) : Type 0 where
  pub first : r.first ≡ x.first
  pub cells : numbers_in r.cells ≡ []
  pub room : room_in x.cells ≤ room_in r.cells

-- such rows
pub record HaveRoomOf (xs rs : List Row) : Type 0 where
  pub count : length rs ≡ length xs
  pub each : (k : ℕ) (x r : Row) → slice_get xs k ≡ Some x → slice_get rs k ≡ Some r → HasRoomOf x r

-- another frame without its cells, with room for as many
pub record IsBlankOf (x f : Frame) : Type 0 where
  pub item : f.item ≡ x.item
  pub loops : f.loops.now.values.items ≡ x.loops.now.values.items
  pub scalars : f.scalars ≡ x.scalars
  pub rows : HaveRoomOf x.rows.items f.rows.items
  pub input : f.input.now ≡ x.input.now
