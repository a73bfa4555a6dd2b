-- The footprints of a plan's items.
use Rattle.std.specs.Prelude.{ℕ, ◌≡◌, ◌<◌, List, [], Option, Some, slice_get, length}
use Rattle.base.specs.Items.{Plan, Work}
use Rattle.base.specs.Accepted.{region_faults}
use Rattle.ranges.specs.declared.cells.Footprint.{Footprint}
use Rattle.mapwalk.specs.Regions.{IsFoundFor}

-- for each item the footprint of its region
pub record AreFootprints (plan : Plan) (found : List (Option Footprint)) : Type 0 where
  pub count : length found ≡ length plan.items
  pub each : (i : ℕ) (w : Work) (o : Option Footprint) → slice_get plan.items i ≡ Some w → slice_get found i ≡ Some o →
      IsFoundFor plan.lengths w o

-- for each of the first n items the footprint of its region, which has no fault of range
pub record AreFirstFootprints (plan : Plan) (n : ℕ) (found : List (Option Footprint)) : Type 0 where
  pub count : length found ≡ n
  pub each : (i : ℕ) (w : Work) (o : Option Footprint) → slice_get plan.items i ≡ Some w → slice_get found i ≡ Some o →
      IsFoundFor plan.lengths w o
  pub fine : (i : ℕ) (w : Work) → i < n → slice_get plan.items i ≡ Some w →
      region_faults plan.lengths w.loops w.region ≡ []
