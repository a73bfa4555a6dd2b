-- What is known of the items before one that is refused.
use Rattle.std.specs.Prelude.{ℕ, ◌≡◌, ◌≤◌, List, Option, Some, Vec, length, slice_get}
use Rattle.std.specs.declared.alloc.Global.{Global}
use Rattle.base.specs.Items.{Plan, Work}
use Rattle.base.specs.declared.item.Item.{Item}
use Rattle.history.specs.Items.{AreSpelled}
use Rattle.mapwalk.specs.Footprints.{AreFootprints}
use Rattle.mapwalk.specs.declared.rows.Acts.{Acts}
use Rattle.ranges.specs.declared.cells.Footprint.{Footprint}

-- what the first items do is spelled out by these rows of their map items, and these are the footprints of all
pub record IsPast (plan : Plan) (rows : List (Vec Acts Global)) (found : List (Option Footprint)) : Type 0 where
  pub few : length rows ≤ length plan.items
  pub spelled : AreSpelled plan rows
  pub footprints : AreFootprints plan found

-- the item of that number in the plan is of this kind, and of this device
pub record IsOf (item : Item) (w : Work) : Type 0 where
  pub kind : w.kind ≡ item.kind
  pub device : w.device ≡ item.device.number

abbrev pub IsItem : Plan → ℕ → Item → Type 0
IsItem plan n item = (w : Work) → slice_get plan.items n ≡ Some w → IsOf item w
