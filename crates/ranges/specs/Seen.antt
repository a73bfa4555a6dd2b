-- What was seen of a region so far, touch by touch.
use Rattle.std.specs.Prelude.{ℕ, Bool, not, ◌&&◌, ◌||◌, nat_le, if◌then◌else◌, List, [], ◌∷◌, ◌++◌, Option, Some, flat_map, sum_by, slice_index}
use Rattle.base.specs.declared.tree.ArrayId.{ArrayId}
use Rattle.base.specs.declared.tree.Place.{Place}
use Rattle.base.specs.declared.tree.Bounds.{Bounds}
use Rattle.base.specs.declared.tree.Stmt.{Stmt}
use Rattle.base.specs.declared.item.Cell.{Cell}
use Rattle.base.specs.declared.fault.Interval.{Interval}
use Rattle.base.specs.Meaning.{turns_left}
use Rattle.base.specs.Interval.{is_single}
use Rattle.base.specs.Footprint.{Touch, stmt_touches, stmt_turns, turns_touch}
use Rattle.ranges.specs.declared.state.Walk.{Walk}
use Rattle.ranges.specs.Faults.{lesser}
use Rattle.ranges.specs.Cells.{has, is_among}

-- the four sets of cells, and the least place of a subscript that can leave its array
pub record Seen : Type 0 where
  pub exposed : Cell → Bool
  pub read : Cell → Bool
  pub write : Cell → Bool
  pub sure : Cell → Bool
  pub least : Option Place

abbrev pub seen_in : Walk → Seen
seen_in w = record {
  exposed = has w.found.exposed;
  read = has w.found.read;
  write = has w.found.write;
  sure = has w.found.sure;
  least = w.least;
}

-- whether a touch up to this cell leaves its array
abbrev pub leaves : List ℕ → ArrayId → Interval → Bool
leaves lengths a cells = nat_le (slice_index lengths a.0) cells.hi

-- the sets change at cells of an array alone
abbrev pub after_read : List ℕ → ArrayId → Place → Interval → Seen → Seen
after_read lengths a place cells s =
    if leaves lengths a cells then record s { least = Some (lesser place s.least) } else
    record s {
      exposed = λ c. s.exposed c || (is_among a cells c && not (s.sure c));
      read = λ c. s.read c || is_among a cells c;
    }

abbrev pub after_write : List ℕ → ArrayId → Place → Interval → Bool → Seen → Seen
after_write lengths a place cells certain s =
    if leaves lengths a cells then record s { least = Some (lesser place s.least) } else
    record s {
      write = λ c. s.write c || is_among a cells c;
      sure = λ c. s.sure c || ((certain && is_single cells) && is_among a cells c);
    }

abbrev pub after_touch : List ℕ → Touch → Seen → Seen
after_touch lengths t s = if t.is_write then after_write lengths t.array t.place t.cells t.certain s else
    after_read lengths t.array t.place t.cells s

abbrev pub after : List ℕ → List Touch → Seen → Seen
after lengths [] s = s
after lengths (t ∷ rest) s = after lengths rest (after_touch lengths t s)

abbrev pub list_touches : List Stmt → List ℕ → Bool → List Touch
list_touches all loops certain = flat_map (λ s. stmt_touches s loops certain) all

abbrev pub list_turns : List Stmt → ℕ
list_turns all = sum_by stmt_turns all

-- the touches of the turns from v on
abbrev pub turns_from : ℕ → Bounds → List Stmt → List ℕ → Bool → List Touch
turns_from v b body loops certain = turns_touch (turns_left v b) v b.step
    (λ v. list_touches body (loops ++ v ∷ []) certain)
