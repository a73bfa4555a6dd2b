-- A region whose turns may be done in spans, and what some of them leave.
use Rattle.std.specs.Prelude.{ℕ, ◌≡◌, ◌<◌, ◌^◌, All, List, [], Option, Some, IsSome, is_some, slice_index}
use Rattle.base.specs.declared.item.Cell.{Cell}
use Rattle.base.specs.declared.tree.Bounds.{Bounds}
use Rattle.base.specs.declared.tree.Region.{Region}
use Rattle.base.specs.declared.tree.Stmt.{Stmt}
use Rattle.base.specs.Meaning.{Run}
use Rattle.base.specs.Turns.{Independent, only_loop}
use Rattle.regions.specs.Footprints.{BoundedScalars, BoundedView}
use Rattle.spans.specs.Spans.{IsSelfContained, span_run, span_turns}
use Rattle.kernel.specs.Kept.{IsKept, Kept}
use Rattle.kernel.specs.Rows.{cells_kept, cells_of, parts_stored}
use Rattle.kernel.specs.declared.frames.Frame.{Frame}
use Rattle.kernel.specs.declared.part.Part.{Part}

-- a region is this loop, with a body whose turns may be done apart, and its frame has no input and numbers of 64 bits
pub record IsSpread (r : Region) (f : Frame) (b : Bounds) (body : List Stmt) : Type 0 where
  pub is_loop : only_loop r.body.items ≡ Some (b, body)
  pub contained : IsSelfContained body
  pub no_input : f.input.now ≡ []
  pub loops : All (λ n. n < 2 ^ 64) f.loops.now.values.items
  pub view : BoundedView (cells_of f.rows.items)
  pub scalars : BoundedScalars (slice_index f.scalars)

-- what turns of a loop do on a frame, from where its region begins
abbrev pub part_run : Frame → List Stmt → Bounds → Option Run
part_run f body b = span_run b body f.loops.now.values.items (cells_of f.rows.items) (slice_index f.scalars)

-- they come to an end, and with d loops in each they meet nowhere
pub record MayRun (f : Frame) (d : ℕ) (body : List Stmt) (b : Bounds) : Type 0 where
  pub runs : IsSome (part_run f body b)
  pub apart : Independent (span_turns d b body f.loops.now.values.items)

-- what turns left
abbrev pub left_by : Part → Kept
left_by p = record {
  scalars = slice_index p.scalars.value;
  stored = parts_stored p.rows.items;
  input = [];
  printed = p.printed.items;
}

-- these turns left it, in rows that have the cells of the frame
pub record IsPart (f : Frame) (body : List Stmt) (b : Bounds) (p : Part) : Type 0 where
  pub kept : IsKept (part_run f body b) (left_by p)
  pub there : (c : Cell) → is_some (cells_kept p.rows.items c) ≡ is_some (cells_of f.rows.items c)
