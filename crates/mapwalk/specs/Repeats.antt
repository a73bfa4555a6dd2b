-- Items whose regions touch what the region of an earlier item touches.
use Rattle.std.specs.Prelude.{ℕ, ◌≡◌, ◌<◌, List, Option, Some, slice_get, length}
use Rattle.base.specs.declared.item.Cell.{Cell}
use Rattle.base.specs.Items.{Plan, Work}
use Rattle.base.specs.Accepted.{region_faults}
use Rattle.base.specs.Actions.{touches_in}
use Rattle.base.specs.Turns.{turns_in_work, turns_meet}

-- two items have the same region, it touches the same cells in both, its turns meet on the same cells, and it has the same
-- faults of range in both
pub record TouchAlike (lengths : List ℕ) (v w : Work) : Type 0 where
  pub region : w.region ≡ v.region
  pub touches : touches_in w ≡ touches_in v
  pub turns : (c : Cell) → turns_meet (turns_in_work w) c ≡ turns_meet (turns_in_work v) c
  pub faults : region_faults lengths w.loops w.region ≡ region_faults lengths v.loops v.region

-- item k is before item n, and the two touch alike
pub record IsRepeat (plan : Plan) (n k : ℕ) : Type 0 where
  pub before : k < n
  pub alike : (v w : Work) → slice_get plan.items k ≡ Some v → slice_get plan.items n ≡ Some w → TouchAlike plan.lengths v w

-- for each of the first n items an item before it that touches alike, or none
pub record AreFirstRepeats (plan : Plan) (n : ℕ) (repeats : List (Option ℕ)) : Type 0 where
  pub count : length repeats ≡ n
  pub each : (i k : ℕ) → slice_get repeats i ≡ Some (Some k) → IsRepeat plan i k

-- for each item
abbrev pub AreRepeats : Plan → List (Option ℕ) → Type 0
AreRepeats plan repeats = AreFirstRepeats plan (length plan.items) repeats
