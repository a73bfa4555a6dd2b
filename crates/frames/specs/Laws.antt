-- What a region does on a part of its memory, what entries store, and what the run of a region leaves.
use Rattle.std.specs.Prelude.{ℕ, ◌≡◌, ◌<◌, ◌^◌, All, Bool, true, List, [], IsSome, Some, length, slice_get}
use Rattle.std.specs.List.{list_any}
use Rattle.base.specs.declared.tree.Program.{Program}
use Rattle.base.specs.declared.tree.Region.{Region}
use Rattle.base.specs.declared.item.Cell.{Cell}
use Rattle.base.specs.declared.item.MapItem.{MapItem}
use Rattle.base.specs.declared.item.Section.{Section}
use Rattle.base.specs.Memory.{Memory, View, Scalars, is_in, view_of, with_stores}
use Rattle.base.specs.Meaning.{Run, lengths_of, run_region}
use Rattle.base.specs.Items.{Work, plan}
use Rattle.base.specs.Map.{Device, Fill, Memories, enter, in_turn}
use Rattle.base.specs.Machine.{store_device}
use Rattle.base.specs.Footprint.{touches_of}
use Rattle.base.specs.Accepted.{IsAccepted, is_target, region_faults, section_faults}
use Rattle.base.specs.Actions.{touches_in}
use Rattle.kernel.specs.Kept.{IsKept, Kept}
use Rattle.present.specs.declared.Table.{Table}
use Rattle.present.specs.Rows.{over, with_numbers}
use Rattle.present.specs.Table.{Shows, number_at}
use Rattle.regions.specs.Footprints.{BoundedScalars, BoundedView}
use Rattle.ranges.specs.Reach.{AreLeastRuns, is_touched}
use Rattle.frames.specs.Reach.{AreRuns, HasTouched, in_reach}
use Rattle.frames.specs.Views.{AreCells, every, with_stored}

-- a region's loops, scalars and input are numbers below 2^64
pub record AreSmall (loops : List ℕ) (scalars : Scalars) (input : List ℕ) : Type 0 where
  pub small_loops : All (λ n. n < 2 ^ 64) loops
  pub small_scalars : BoundedScalars scalars
  pub small_input : All (λ n. n < 2 ^ 64) input

-- a region does the same on two views that agree on the cells that it may touch, the one with numbers below 2^64
abbrev pub TouchedCellsDecide : Type 0
TouchedCellsDecide =
    (r : Region) (loops : List ℕ) (u v : View) (scalars : Scalars) (input : List ℕ) → AreSmall loops scalars input →
    BoundedView u → ((c : Cell) → is_touched (touches_of r loops) c ≡ true → u c ≡ v c) →
    run_region r loops u scalars input ≡ run_region r loops v scalars input

-- least runs of what a region touches are runs of its arrays and have each touched cell, where it has no fault of range
pub record Reaches (lengths : List ℕ) (r : Region) (loops : List ℕ) (reach : List Section) : Type 0 where
  pub runs : AreRuns lengths reach
  pub touched : HasTouched reach (touches_of r loops)

abbrev pub LeastRunsReach : Type 0
LeastRunsReach =
    (r : Region) (loops lengths : List ℕ) (p : Cell → Bool) (reach : List Section) →
    region_faults lengths loops (Some r) ≡ [] → ((c : Cell) → p c ≡ is_touched (touches_of r loops) c) →
    AreLeastRuns p (length lengths) reach → Reaches lengths r loops reach

-- on what is in reach of the host memory a region does what it does on the host memory
abbrev pub HostFrameMeans : Type 0
HostFrameMeans =
    (r : Region) (loops lengths : List ℕ) (reach : List Section) (memory : Memory) (u : View) (scalars : Scalars)
    (input : List ℕ) → AreSmall loops scalars input → BoundedView u → HasTouched reach (touches_of r loops) →
    u ≡ in_reach reach (view_of lengths memory) →
    run_region r loops u scalars input ≡ run_region r loops (view_of lengths memory) scalars input

-- on the numbers of a table in reach a region does what it does on the cells of each device that the table shows, where
-- each touched cell has storage
abbrev pub KernelFrameMeans : Type 0
KernelFrameMeans =
    (r : Region) (loops : List ℕ) (reach : List Section) (t : Table) (d : Device) (u : View) (scalars : Scalars)
    (input : List ℕ) → AreSmall loops scalars input → BoundedView u → HasTouched reach (touches_of r loops) →
    Shows t d → ((c : Cell) → is_touched (touches_of r loops) c ≡ true → IsSome (d.cells c)) →
    u ≡ in_reach reach (over (number_at t) (every 0)) →
    run_region r loops u scalars input ≡ run_region r loops d.cells scalars input

-- after entries that succeed each cell of each map item's section has storage
abbrev pub EntriesGiveStorage : Type 0
EntriesGiveStorage =
    (fill : Fill) (maps : List MapItem) (m after : Memories) (t : Table) →
    in_turn (enter fill) maps m ≡ Some after → Shows t after.device →
    (c : Cell) → list_any (λ m. is_in c m.section) maps ≡ true → IsSome (after.device.cells c)

-- what is known of an item of an accepted program
pub record IsFine (lengths : List ℕ) (w : Work) : Type 0 where
  pub loops : All (λ n. n < 2 ^ 64) w.loops
  pub sections : section_faults lengths w.maps w.depends ≡ []
  pub region : (r : Region) → w.region ≡ Some r → region_faults lengths w.loops (Some r) ≡ []
  pub has_region : is_target w.kind ≡ true → IsSome w.region
  pub mapped : is_target w.kind ≡ true → (c : Cell) → is_touched (touches_in w) c ≡ true →
      list_any (λ m. is_in c m.section) w.maps ≡ true

abbrev pub AcceptedItemsAreFine : Type 0
AcceptedItemsAreFine =
    (p : Program) → IsAccepted (plan p) → (i : ℕ) (w : Work) → slice_get (plan p).items i ≡ Some w →
    IsFine (lengths_of p) w

-- what a region with no fault of range stores lies in the arrays
abbrev pub StoresAreCells : Type 0
StoresAreCells =
    (r : Region) (loops lengths : List ℕ) (u : View) (scalars : Scalars) (input : List ℕ) (k : Kept) →
    AreSmall loops scalars input → BoundedView u → region_faults lengths loops (Some r) ≡ [] →
    IsKept (run_region r loops u scalars input) k → AreCells lengths k.stored

-- what is kept of a run: the run itself, and the two memories after its stores
pub record Leaves (run : Run) (k : Kept) : Type 0 where
  pub scalars : run.scalars ≡ k.scalars
  pub input : run.input ≡ k.input
  pub printed : run.printed ≡ k.printed
  pub host : (memory : Memory) → with_stores run.stores memory ≡ with_stored k.stored memory
  pub device : (d after : Device) → store_device run.stores d ≡ Some after → with_numbers k.stored d ≡ after

abbrev pub KeptLeaves : Type 0
KeptLeaves = (run : Run) (k : Kept) → IsKept (Some run) k → Leaves run k
