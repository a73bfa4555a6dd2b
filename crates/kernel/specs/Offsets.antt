-- A number that is added to the value of a loop in the indices at which its turns store, if there is one.
use Rattle.std.specs.Prelude.{ℕ, ◌+◌, ◌≤◌, ◌^◌, Bool, List, Option, Some, None, length, slice_index, unwrap_or}
use Rattle.base.specs.declared.tree.Expr.{Expr}
use Rattle.base.specs.declared.tree.Stmt.{Stmt}
use Rattle.base.specs.Memory.{Scalars}
use Rattle.lanes.specs.Apart.{Set, Places, assigned_in, is_turn, own_value_places}
use Rattle.lanes.specs.Moved.{is_moved, moved_places}
use Rattle.kernel.specs.declared.turns.Around.{Around}

-- where the turns have their cells
abbrev pub places_of : Option ℕ → Places
places_of None = own_value_places
places_of (Some u) = moved_places u

-- the index expressions that name these cells
abbrev pub here_of : Set → Scalars → List ℕ → Option ℕ → Expr → Bool
here_of own before outer None e = is_turn (length outer) e
here_of own before outer (Some u) e = is_moved own before outer u e

abbrev pub here_in : List Stmt → Around → Expr → Bool
here_in body at e = here_of (assigned_in body) (slice_index at.scalars.now) at.outer.now at.offset e

-- what is added, and 0 where nothing is
abbrev pub moved_by : Option ℕ → ℕ
moved_by o = unwrap_or o 0

-- no index of a turn before this end wraps
abbrev pub IsWithin : Option ℕ → ℕ → Type 0
IsWithin o end = moved_by o + end ≤ 2 ^ 64
