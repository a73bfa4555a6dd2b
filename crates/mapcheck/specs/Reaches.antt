-- The cells that the regions of items may touch, as runs of cells of the arrays.
use Rattle.base.specs.Actions.{touches_in}
use Rattle.std.specs.Prelude.{ℕ, ◌≡◌, List, Some, Vec, length, slice_get}
use Rattle.std.specs.declared.alloc.Global.{Global}
use Rattle.base.specs.declared.item.Section.{Section}
use Rattle.base.specs.declared.tree.ArrayId.{ArrayId}
use Rattle.base.specs.Items.{Plan, Work}
use Rattle.ranges.specs.Reach.{AreLeastRuns, is_touched}
use Rattle.mapcheck.specs.Third.{IsPassed}

-- for each array the least run of cells that has all which the item's region may touch
abbrev pub IsReach : List ℕ → Work → List Section → Type 0
IsReach lengths w reach = AreLeastRuns (is_touched (touches_in w)) (length lengths) reach

-- of each of the first n items
pub record AreFirstReaches (plan : Plan) (n : ℕ) (reaches : List (Vec Section Global)) : Type 0 where
  pub count : length reaches ≡ n
  pub each : (i : ℕ) (w : Work) (v : Vec Section Global) → slice_get plan.items i ≡ Some w →
      slice_get reaches i ≡ Some v → IsReach plan.lengths w v.items

-- of each item
abbrev pub AreReaches : Plan → List (Vec Section Global) → Type 0
AreReaches plan reaches = AreFirstReaches plan (length plan.items) reaches

-- the program is accepted, with the arrays marked current and the reaches of its items
pub record IsKnown (plan : Plan) (arrays : List ArrayId) (reaches : List (Vec Section Global)) : Type 0 where
  pub passed : IsPassed plan arrays
  pub reached : AreReaches plan reaches
