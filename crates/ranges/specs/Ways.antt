-- How a touch treats its cells, and what is noted of the touches of turns, one after the other.
use Rattle.std.specs.Prelude.{ℕ, zero, suc, ◌+◌, ◌-◌, Bool, true, false, not, ◌&&◌, ◌||◌, ◌==◌, List, [], ◌∷◌, Option, Some, None, option_map, min, slice_get, if◌then◌else◌}
use Rattle.base.specs.declared.tree.ArrayId.{ArrayId}
use Rattle.base.specs.declared.tree.Bounds.{Bounds}
use Rattle.base.specs.declared.tree.CombineOp.{CombineOp}
use Rattle.base.specs.declared.tree.Stmt.{Stmt}
use Rattle.base.specs.declared.item.Cell.{Cell}
use Rattle.base.specs.declared.fault.Interval.{Interval}
use Rattle.base.specs.Footprint.{Touch}
use Rattle.base.specs.Least.{lesser}
use Rattle.base.specs.Turns.{Turn, only_loop, operator_number, turn_touches}
use Rattle.ranges.specs.declared.cells.CellSet.{CellSet}
use Rattle.ranges.specs.declared.way.Way.{Way}
use Rattle.ranges.specs.declared.way.Way.TheVariants.{Read, Write, Update}
use Rattle.ranges.specs.declared.met.Meetings.{Meetings}
use Rattle.ranges.specs.declared.nest.Nest.{Nest}
use Rattle.ranges.specs.Cells.{has, is_among}
use Rattle.ranges.specs.Seen.{leaves}

-- ways have numbers
abbrev pub number_of : Way → ℕ
number_of Read = 0
number_of Write = 1
number_of (Update op) = 2 + operator_number op

-- by the operator of an update that it may be part of, and whether it writes
abbrev pub way_by : Option CombineOp → Bool → Way
way_by None false = Read
way_by None true = Write
way_by (Some op) writes = Update op

abbrev pub kind_of : Touch → ℕ
kind_of t = number_of (way_by t.combines t.is_write)

-- touches of one cell in these ways do not commute: they are not both plain reads, nor both updates by one operator
abbrev pub opposes : ℕ → ℕ → Bool
opposes a b = not (a == b) || (a == 1)

-- what is noted of the turns so far: for each way, by its number, the cells that they touched in it, and the least
-- cell on which two of them meet
pub record Noted : Type 0 where
  pub touched : ℕ → Cell → Bool
  pub least : Option Cell

abbrev pub nothing_noted : Noted
nothing_noted = record { touched = λ k c. false; least = None }

abbrev pub touched_in : List CellSet → ℕ → Cell → Bool
touched_in sets k c = elim (slice_get sets k) [
  | None ↦ false
  | Some set ↦ has set c
]

abbrev pub noted_in : Meetings → Noted
noted_in m = record { touched = touched_in m.touched.items; least = m.least }

-- whether a cell was touched in one of the first n ways that oppose this one
unfoldable pub opposed : ℕ → ℕ → (ℕ → Cell → Bool) → Cell → Bool
opposed zero way touched c = false
opposed (suc n) way touched c = opposed n way touched c || (opposes n way && touched n c)

abbrev pub ways : ℕ
ways = 9

-- the first of n numbers, from one on, at which a test holds
unfoldable pub first_in : ℕ → ℕ → (ℕ → Bool) → Option ℕ
first_in zero from p = None
first_in (suc n) from p = if p from then Some from else first_in n (from + 1) p

abbrev pub cell_in : ArrayId → ℕ → Cell
cell_in a i = record { array = a; index = i }

-- the lesser of two numbers, either of which may be missing
abbrev pub lesser_number : Option ℕ → Option ℕ → Option ℕ
lesser_number None b = b
lesser_number (Some a) None = Some a
lesser_number (Some a) (Some b) = Some (min a b)

-- the first of these cells of an array that was touched in a way which opposes this one
unfoldable pub first_opposed : ℕ → ArrayId → Interval → (ℕ → Cell → Bool) → Option ℕ
first_opposed way a cells touched =
    first_in (cells.hi + 1 - cells.lo) cells.lo (λ i. opposed ways way touched (cell_in a i))

abbrev pub added : ℕ → ArrayId → Interval → Noted → Noted
added way a cells s = record s { touched = λ k c. s.touched k c || ((way == k) && is_among a cells c) }

abbrev pub tested : ℕ → ArrayId → Interval → Noted → Noted
tested way a cells s = record s { least = lesser s.least (option_map (cell_in a) (first_opposed way a cells s.touched)) }

-- cells are added to those that were touched, or tested against them. Cells that leave their array are passed over
abbrev pub after_use : List ℕ → Bool → ℕ → ArrayId → Interval → Noted → Noted
after_use lengths adds way a cells s =
    if leaves lengths a cells then s else (if adds then added way a cells s else tested way a cells s)

abbrev pub after_uses : List ℕ → Bool → List Touch → Noted → Noted
after_uses lengths adds [] s = s
after_uses lengths adds (t ∷ rest) s =
    after_uses lengths adds rest (after_use lengths adds (kind_of t) t.array t.cells s)

-- a turn's touches are tested against those of the turns before, and then added to them
abbrev pub after_turn : List ℕ → Turn → Noted → Noted
after_turn lengths t s = after_uses lengths true (turn_touches t) (after_uses lengths false (turn_touches t) s)

abbrev pub after_turns : List ℕ → List Turn → Noted → Noted
after_turns lengths [] s = s
after_turns lengths (t ∷ rest) s = after_turns lengths rest (after_turn lengths t s)

-- the loop that is all of these statements, where turns of d loops are asked for
abbrev pub loop_at : ℕ → List Stmt → Option (Bounds × List Stmt)
loop_at zero body = None
loop_at (suc d) body = only_loop body

abbrev pub nest_in : Option Nest → Option (Bounds × List Stmt)
nest_in None = None
nest_in (Some n) = Some (n.bounds, n.body.now)
