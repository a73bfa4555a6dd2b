-- What the closing of an item does.
use Rattle.std.specs.Prelude.{◌≡◌, ◌++◌, ℕ, true, IsSome, List, Some, slice_get, slice_index}
use Rattle.base.specs.declared.item.ItemKind.{ItemKind}
use Rattle.base.specs.declared.item.ItemKind.TheVariants as kind
use Rattle.base.specs.declared.item.Item.{Item}
use Rattle.base.specs.declared.item.MapItem.{MapItem}
use Rattle.base.specs.declared.item.Event.TheVariants as event
use Rattle.base.specs.declared.tree.Region.{Region}
use Rattle.host_memory.specs.Arrays.{memory_of, lengths_of}
use Rattle.base.specs.Memory.{View, Scalars}
use Rattle.base.specs.Meaning.{run_region}
use Rattle.base.specs.Items.{Work, Plan}
use Rattle.base.specs.Machine.{State, Opened, is_open, step}
use Rattle.base.specs.Accepted.{is_host, is_target}
use Rattle.kernel.specs.Kept.{IsKept, Kept}
use Rattle.kernel.specs.Rows.{cells_stored}
use Rattle.frames.specs.Views.{with_stored}
use Rattle.device.specs.declared.left.Left.{Left}
use Rattle.device.specs.declared.standing.Standing.{Standing}
use Rattle.device.specs.Devices.{LeavesOn, OnTable}
use Rattle.device.specs.Moves.{LeavesFrom}
use Rattle.device.specs.Opening.{IsOf}
use Rattle.device.specs.Standing.{IsAt, fill_from, input_for}

-- what a run left
abbrev pub left_of : Left → Kept
left_of l = record { scalars = slice_index l.scalars.now; stored = cells_stored l.rows.now; input = l.input.now; printed = l.printed.now }

-- a host region's stores, scalars, input and output
pub record HasDoneHost (k : Kept) (old new : Standing) : Type 0 where
  pub host : memory_of new.host ≡ with_stored k.stored (memory_of old.host)
  pub lengths : lengths_of new.host ≡ lengths_of old.host
  pub scalars : slice_index new.scalars ≡ k.scalars
  pub input : new.input.now ≡ k.input
  pub output : new.output ≡ old.output ++ k.printed
  pub devices : new.devices ≡ old.devices
  pub entered : new.entered ≡ old.entered
  pub graph : new.graph ≡ old.graph
  pub ended : new.ended ≡ old.ended
  pub held : new.held ≡ old.held

-- the exits of a kernel on device d can be done after its stores
abbrev pub GoesOut : ℕ → View → List MapItem → Standing → Type 0
GoesOut d stored maps now = OnTable now.devices d (λ t. LeavesFrom stored maps t now.host)

-- a kernel's stores on device d, and then the exits
pub record HasDoneKernel (d : ℕ) (stored : View) (maps : List MapItem) (old new : Standing) : Type 0 where
  pub leaves : LeavesOn d stored maps old.devices old.host new.devices new.host
  pub lengths : lengths_of new.host ≡ lengths_of old.host
  pub rest : new ≡ record old { devices = new.devices; host = new.host }

-- what is kept of a run is what the open item's region leaves
abbrev pub IsLeftBy : ℕ → Work → State → Kept → Type 0
IsLeftBy i w s k = (captured : Scalars) (snapshot : View) (r : Region) → s.condition i ≡ Opened captured snapshot →
    w.region ≡ Some r → IsKept (run_region r w.loops snapshot captured (input_for w.kind s.input)) k

-- an open host item is the one at which the host stands
abbrev pub HostsAreHere : Plan → State → Type 0
HostsAreHere plan s = (j : ℕ) (w : Work) → slice_get plan.items j ≡ Some w → is_host w.kind ≡ true →
    is_open (s.condition j) ≡ true → j ≡ s.place

-- what an item of this kind leaves on device d when it is closed
abbrev pub HasLeft : ItemKind → ℕ → Kept → List MapItem → Standing → Standing → Type 0
HasLeft kind.Host d k maps old new = HasDoneHost k old new
HasLeft kind.Target d k maps old new = HasDoneKernel d k.stored maps old new
HasLeft kind.Begin d k maps old new = new ≡ old
HasLeft kind.End d k maps old new = new ≡ old
HasLeft kind.Enter d k maps old new = new ≡ old
HasLeft kind.Exit d k maps old new = new ≡ old
HasLeft kind.Update d k maps old new = new ≡ old
HasLeft kind.Wait d k maps old new = new ≡ old

-- a work with a region, if it is of the host or of a target
abbrev pub HasRegion : Work → Type 0
HasRegion w = (is_host w.kind ≡ true → IsSome w.region) × (is_target w.kind ≡ true → IsSome w.region)

-- where an item is closed in a state that is shown, with what its region leaves, the state after it is shown
abbrev pub FollowsClose : Standing → ℕ → Item → Kept → Standing → Type 0
FollowsClose old i it k new = (plan : Plan) (s t : State) (w : Work) → IsAt plan old s → slice_get plan.items i ≡ Some w →
    IsOf it w → HasRegion w → HostsAreHere plan s → IsLeftBy i w s k → step plan (fill_from old) s (event.Close i) ≡ Some t →
    IsAt plan new t
