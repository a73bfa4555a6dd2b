-- What an opening does, and the frame that it issues.
use Rattle.std.specs.Prelude.{◌≡◌, ℕ, Some, map, slice_get}
use Rattle.std.specs.List.{slice_set}
use Rattle.base.specs.declared.item.Item.{Item}
use Rattle.base.specs.declared.item.ItemKind.{ItemKind}
use Rattle.base.specs.declared.item.ItemKind.TheVariants as kind
use Rattle.base.specs.declared.item.Event.TheVariants as event
use Rattle.base.specs.Memory.{View}
use Rattle.base.specs.Items.{Work, Plan}
use Rattle.base.specs.Map.{Memories, memories_at}
use Rattle.base.specs.Machine.{State, captured_by, opening, step, worked_on}
use Rattle.frames.specs.Reach.{in_reach}
use Rattle.frames.specs.Rows.{AreRows, HasRoom}
use Rattle.frames.specs.Views.{every}
use Rattle.kernel.specs.declared.frames.Frame.{Frame}
use Rattle.kernel.specs.Rows.{cells_of}
use Rattle.present.specs.declared.Table.{Table}
use Rattle.present.specs.Rows.{over}
use Rattle.present.specs.Table.{Shows, fill_of, number_at}
use Rattle.device.specs.Devices.{LooksTheSame, OnTable}
use Rattle.device.specs.Moves.{Goes, opens_with}
use Rattle.ranges.specs.Reach.{AreOfArrays}
use Rattle.regions.specs.Footprints.{BoundedView}
use Rattle.device.specs.declared.frame.Unfilled.{Unfilled}
use Rattle.device.specs.declared.standing.Standing.{Standing}
use Rattle.device.specs.Standing.{IsAt, IsFrameOf, fill_from, frame_parts, issue_of}

-- a work with the kind, the device and the map items of an item
pub record IsOf (it : Item) (w : Work) : Type 0 where
  pub kind : w.kind ≡ it.kind
  pub device : w.device ≡ it.device.number
  pub maps : w.maps ≡ it.maps.items
  pub deferred : w.deferred ≡ it.deferred
  pub loops : w.loops ≡ it.loops.values.items

-- what the item does when it is opened can be done on its device
abbrev pub GoesIn : Standing → Item → Type 0
GoesIn now it =
    OnTable now.devices it.device.number (λ t. Goes (opens_with (fill_of t) it.kind it.maps.items) t now.host)

-- a frame with other numbers in its cells
pub record HasCells (old : Frame) (view : View) (new : Frame) : Type 0 where
  pub item : new.item ≡ old.item
  pub loops : new.loops.now.values.items ≡ old.loops.now.values.items
  pub scalars : new.scalars ≡ old.scalars
  pub input : new.input.now ≡ old.input.now
  pub cells : cells_of new.rows.items ≡ view
  pub bounded : BoundedView (cells_of new.rows.items)

-- there is room for the cells in reach, and none of them yet
pub record IsEmpty (u : Unfilled) : Type 0 where
  pub room : AreRows HasRoom u.reach.now u.frame.rows.items
  pub arrays : AreOfArrays u.reach.now

-- the frame of a kernel gets the cells in reach with the numbers of its device, after the entries
abbrev pub IsFilled : ItemKind → Unfilled → Table → Frame → Type 0
IsFilled kind.Target u t new = HasCells u.frame (in_reach u.reach.now (over (number_at t) (every 0))) new
IsFilled kind.Host u t new = new ≡ u.frame
IsFilled kind.Begin u t new = new ≡ u.frame
IsFilled kind.End u t new = new ≡ u.frame
IsFilled kind.Enter u t new = new ≡ u.frame
IsFilled kind.Exit u t new = new ≡ u.frame
IsFilled kind.Update u t new = new ≡ u.frame
IsFilled kind.Wait u t new = new ≡ u.frame

-- the frame is that of the item, once it is filled
abbrev pub Serves : Plan → Standing → State → ℕ → Work → Unfilled → Type 0
Serves plan now s i w u = (m : Memories) (t : Table) (f : Frame) → opening (fill_from now i) w (memories_at w.device s.memories) ≡ Some m →
    Shows t m.device → IsFilled w.kind u t f →
    IsFrameOf i w (captured_by (s.condition i) s.scalars) (worked_on plan.lengths w.kind m) s.input f

-- where an item is opened in a state that is shown, with a frame that serves it, the state after it is shown
abbrev pub FollowsOpen : Standing → ℕ → Item → Unfilled → Standing → Type 0
FollowsOpen old i it u new = (plan : Plan) (s t : State) (w : Work) → IsAt plan old s →
    slice_get plan.items i ≡ Some w → IsOf it w → Serves plan old s i w u →
    step plan (fill_from old) s (event.Open i) ≡ Some t → IsAt plan new t

-- all but the table of device d is the same, and the table looks the same
pub record IsSame (d : ℕ) (old new : Standing) : Type 0 where
  pub looks : LooksTheSame d old.devices new.devices
  pub rest : new ≡ record old { devices = new.devices }

-- a frame was issued for an item
pub record Issues (i : ℕ) (old new : Standing) : Type 0 where
  pub frame : Frame
  pub is : map issue_of new.held.items ≡ slice_set (map issue_of old.held.items) i (Some (frame_parts frame))
