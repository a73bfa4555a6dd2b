-- What the region of an item needs and does.
use Rattle.std.specs.Prelude.{ℕ, ◌≡◌, List, [], Option, Some, None, IfSome}
use Rattle.base.specs.declared.item.Cell.{Cell}
use Rattle.base.specs.declared.item.Item.{Item}
use Rattle.base.specs.declared.item.ItemKind.{ItemKind}
use Rattle.base.specs.declared.item.ItemKind.TheVariants as kind
use Rattle.base.specs.declared.tree.Program.{Program}
use Rattle.base.specs.Meaning.{lengths_of}
use Rattle.base.specs.Items.{Work}
use Rattle.base.specs.Footprint.{exposes, reads, surely_writes, writes}
use Rattle.base.specs.Actions.{Action, HostRegion, Kernel, region_acts, touches_in}
use Rattle.base.specs.Accepted.{range_faults}
use Rattle.base.specs.Least.{IsLeast}
use Rattle.base.specs.Turns.{turns_in_work, turns_meet}
use Rattle.outline.specs.Regions.{entries_of}
use Rattle.outline.specs.Shown.{shown}
use Rattle.ranges.specs.declared.cells.Footprint.{Footprint}
use Rattle.ranges.specs.Cells.{has}
use Rattle.mapwalk.specs.Current.{AreInside}

-- the item, with its region in full, has no fault of range
abbrev pub HasNoFault : Program → Item → Type 0
HasNoFault p item = (w : Work) → shown (entries_of p) item ≡ Some w → range_faults (lengths_of p) w ≡ []

-- the sets of cells are those that the item's region touches, and the least cell on which its turns meet is the one kept
pub record AreTouches (w : Work) (f : Footprint) : Type 0 where
  pub exposed : (c : Cell) → has f.exposed c ≡ exposes (touches_in w) c
  pub read : (c : Cell) → has f.read c ≡ reads (touches_in w) c
  pub write : (c : Cell) → has f.write c ≡ writes (touches_in w) c
  pub sure : (c : Cell) → has f.sure c ≡ surely_writes (touches_in w) c
  pub meeting : IsLeast (turns_meet (turns_in_work w)) f.meeting

-- each touched cell is one of an array
pub record IsWithin (lengths : List ℕ) (f : Footprint) : Type 0 where
  pub exposed : AreInside lengths (has f.exposed)
  pub read : AreInside lengths (has f.read)
  pub write : AreInside lengths (has f.write)
  pub sure : AreInside lengths (has f.sure)

-- the footprint of the item's region, or none where it has no region
abbrev pub IsFootprintOf : Work → Option Footprint → Type 0
IsFootprintOf w None = w.region ≡ None
IsFootprintOf w (Some f) = AreTouches w f

-- and each of its cells is one of an array
pub record IsFoundFor (lengths : List ℕ) (w : Work) (o : Option Footprint) : Type 0 where
  pub touches : IsFootprintOf w o
  pub within : IfSome o (IsWithin lengths)

-- what an item's region does
abbrev pub region_actions : Work → List Action
region_actions w = at w.kind
  where
    at : ItemKind → List Action
    at kind.Host = (region_acts HostRegion w []).actions
    at kind.Target = (region_acts Kernel w []).actions
    at kind.Begin = []
    at kind.Enter = []
    at kind.End = []
    at kind.Exit = []
    at kind.Update = []
    at kind.Wait = []
