-- The state of the fine-grained machine that the code's values show.
use Rattle.std.specs.Prelude.{◌≡◌, ◌+◌, ◌<◌, ◌++◌, ℕ, Bool, true, false, nat_lt, List, [], ◌∷◌, Option, Some, None, IsSomeAnd, length, slice_get, slice_index}
use Rattle.base.specs.declared.item.Event.{Event}
use Rattle.base.specs.declared.item.Event.TheVariants.{Open, Step}
use Rattle.base.specs.declared.item.Item.{Item}
use Rattle.base.specs.declared.item.ItemKind.{ItemKind}
use Rattle.base.specs.declared.item.ItemKind.TheVariants as kind
use Rattle.base.specs.declared.tree.Region.{Region}
use Rattle.base.specs.declared.fault.RunFault.{RunFault}
use Rattle.base.specs.declared.fault.RunFault.TheVariants as fault
use Rattle.host_memory.specs.Arrays.{memory_of, lengths_of}
use Rattle.base.specs.Memory.{Scalars}
use Rattle.base.specs.Items.{Work, Plan}
use Rattle.base.specs.Map.{Block, Fill, in_use, need}
use Rattle.base.specs.Machine.{deferred_closed, is_open}
use Rattle.fine_machine.specs.Left.{Left, Asks, Finished, Request, Enter, Load, Store, Combine, Leave, Remove, CopyIn, CopyOut}
use Rattle.fine_machine.specs.Machine.{State, Condition, Untouched, Generated, Opened, Closed, Passed, as_whole, captured_by, device_of, enabled, step, whole_condition}
use Rattle.taskgraph.specs.Board.{Stands}
use Rattle.present.specs.declared.Table.{Table}
use Rattle.host_memory.specs.declared.memory.Memory.{Memory as Arrays}
use Rattle.device.specs.declared.devices.Devices.{Devices}
use Rattle.device.specs.Devices.{AreAlike, Becomes, ShowAll, fresh_of}
use Rattle.device.specs.Moves.{CountsAtMost}
use Rattle.actions.specs.declared.action.Action.{Action}
use Rattle.actions.specs.declared.action.Action.TheVariants as action
use Rattle.actions.specs.declared.action.Given.{Given}
use Rattle.actions.specs.Acting.{Acts}
use Rattle.stepper.specs.declared.standing.Slot.{Slot}
use Rattle.stepper.specs.declared.standing.Slot.TheVariants as slot
use Rattle.stepper.specs.declared.standing.Standing.{Standing}
use Rattle.actions.specs.declared.control.Control.{Control}
use Rattle.actions.specs.Control.{IsNext, IsStopped, left_of, run_of}
use Rattle.stepper.specs.Order.{same_order}
use Rattle.actions.specs.Opening.{InArrays, IsWork, StaysInside}

abbrev pub IsCaptured : Scalars → Option Slot → Type 0
IsCaptured captured (Some (slot.Captured scalars)) = captured ≡ slice_index scalars
IsCaptured captured (Some slot.Nothing) = ⊥
IsCaptured captured (Some (slot.Opened control)) = ⊥
IsCaptured captured None = ⊥

-- what is left of an open item, which stands before an action or at its end
pub record IsControl (lengths : List ℕ) (left : Left) (control : Control) : Type 0 where
  pub is : left ≡ left_of control
  pub stopped : IsStopped control
  pub inside : StaysInside lengths left

abbrev pub IsOpen : List ℕ → Left → Option Slot → Type 0
IsOpen lengths left (Some (slot.Opened control)) = IsControl lengths left control
IsOpen lengths left (Some (slot.Captured scalars)) = ⊥
IsOpen lengths left (Some slot.Nothing) = ⊥
IsOpen lengths left None = ⊥

-- what is kept for an item is what its condition has
abbrev pub Keeps : List ℕ → Condition → Option Slot → Type 0
Keeps lengths Untouched o = Unit {0}
Keeps lengths (Generated captured) o = IsCaptured captured o
Keeps lengths (Opened left) o = IsOpen lengths left o
Keeps lengths Closed o = Unit {0}
Keeps lengths Passed o = Unit {0}

-- the host's place, which the end takes one further
abbrev pub place_of : Bool → ℕ → ℕ
place_of true place = place + 1
place_of false place = place

-- the host stands at an open item that is not deferred
abbrev pub IsHere : Plan → State → Type 0
IsHere plan s = (i : ℕ) (w : Work) → slice_get plan.items i ≡ Some w → w.deferred ≡ false →
    is_open (whole_condition (s.condition i)) ≡ true → s.place ≡ i

-- the code's values show this state
pub record IsAt (plan : Plan) (now : Standing) (s : State) : Type 0 where
  pub host : s.memories.host ≡ memory_of now.host
  pub lengths : lengths_of now.host ≡ plan.lengths
  pub devices : ShowAll now.devices s.memories.devices
  pub alike : AreAlike now.devices
  pub counts : (d : ℕ) → CountsAtMost now.entered (s.memories.devices d).blocks
  pub graph : Stands plan (record (as_whole s) { place = now.graph.place }) now.graph
  pub place : s.place ≡ place_of now.ended now.graph.place
  pub ended : now.ended ≡ true → (now.graph.place ≡ length plan.items) × (deferred_closed plan (as_whole s) ≡ true)
  pub here : IsHere plan s
  pub scalars : s.scalars ≡ slice_index now.scalars
  pub input : s.input ≡ now.input.now
  pub output : s.output ≡ now.output.items
  pub slots : length now.slots.items ≡ length plan.items
  pub kept : (i : ℕ) → i < length plan.items → Keeps plan.lengths (s.condition i) (slice_get now.slots.items i)

-- each item's storage is created with what the tables fill it with
abbrev pub fill_from : Standing → ℕ → Fill
fill_from now i = λ c. fresh_of now.devices

-- in which order an item's turns go on
abbrev pub order_from : Standing → ℕ → List ℕ
order_from now = same_order now.order.now

-- where an event may happen in a state that is shown, the state after it is shown
abbrev pub Follows : Standing → Event → Standing → Type 0
Follows old e new = (plan : Plan) (s t : State) → IsAt plan old s → enabled plan s e ≡ true →
    step plan (fill_from old) (order_from old) s e ≡ Some t → IsAt plan new t

-- an event fails in each state that is shown in which it may happen
abbrev pub FailsAt : Standing → Event → Type 0
FailsAt now e = (plan : Plan) (s : State) → IsAt plan now s → enabled plan s e ≡ true →
    step plan (fill_from now) (order_from now) s e ≡ None

-- this item of the plan, with its region in full, works on this device, and its sections lie in their arrays
pub record IsItem (plan : Plan) (i : ℕ) (it : Item) (r : Option Region) : Type 0 where
  pub work : Work
  pub is : slice_get plan.items i ≡ Some work
  pub same : IsWork it r work
  pub deferred : work.deferred ≡ it.deferred
  pub device : work.device ≡ it.device.number
  pub inside : InArrays plan.lengths it.maps.items

-- of such an item the event leads to a state that is shown
abbrev pub FollowsOf : Item → Option Region → ℕ → Standing → Event → Standing → Type 0
FollowsOf it r i old e new = (plan : Plan) (s : State) → IsItem plan i it r → IsAt plan old s → enabled plan s e ≡ true →
    IsSomeAnd (step plan (fill_from old) (order_from old) s e) (IsAt plan new)

abbrev pub FailsOf : Item → Option Region → ℕ → Standing → Event → Type 0
FailsOf it r i now e = (plan : Plan) (s : State) → IsItem plan i it r → IsAt plan now s → enabled plan s e ≡ true →
    step plan (fill_from now) (order_from now) s e ≡ None

-- why an item is not opened: for want of memory, or it fails
abbrev pub IsOpenFault : Item → Option Region → ℕ → Standing → RunFault → Type 0
IsOpenFault it r i now fault.OutOfMemory = Unit {0}
IsOpenFault it r i now fault.Absent = FailsOf it r i now (Open i)
IsOpenFault it r i now fault.DeviceFull = ⊥
IsOpenFault it r i now fault.Stranger = ⊥
IsOpenFault it r i now fault.ThreadNotStarted = ⊥
IsOpenFault it r i now fault.OtherState = ⊥
IsOpenFault it r i now fault.RangeRefused = ⊥

-- the same, of an item of this kind
abbrev pub FollowsOfKind : ItemKind → ℕ → Standing → Event → Standing → Type 0
FollowsOfKind kind i old e new = (plan : Plan) (s t : State) (w : Work) → slice_get plan.items i ≡ Some w → w.kind ≡ kind →
    IsAt plan old s → enabled plan s e ≡ true → step plan (fill_from old) (order_from old) s e ≡ Some t → IsAt plan new t

-- an item works on this device
abbrev pub IsOnDevice : Plan → ℕ → ℕ → Type 0
IsOnDevice plan i d = (w : Work) → slice_get plan.items i ≡ Some w → w.device ≡ d

-- an action comes next for the item
abbrev pub IsActing : Option Slot → Type 0
IsActing (Some (slot.Opened control)) = IsStopped control → (a : Action) × IsNext control (Some a)
IsActing (Some (slot.Captured scalars)) = ⊥
IsActing (Some slot.Nothing) = ⊥
IsActing None = ⊥

-- an open item stands before an action or at its end
abbrev pub IsReady : Option Slot → Type 0
IsReady (Some (slot.Opened control)) = IsStopped control
IsReady (Some (slot.Captured scalars)) = ⊥
IsReady (Some slot.Nothing) = ⊥
IsReady None = ⊥

-- nothing is left of the item, or it is not open
abbrev pub IsAtRest : Option Slot → Type 0
IsAtRest (Some (slot.Opened control)) = IsStopped control → left_of control ≡ Finished (run_of control)
IsAtRest (Some (slot.Captured scalars)) = Unit {0}
IsAtRest (Some slot.Nothing) = Unit {0}
IsAtRest None = Unit {0}

-- the action that an open item asks for next
abbrev pub asked : Condition → Option Request
asked (Opened (Asks request k)) = Some request
asked (Opened (Finished run)) = None
asked Untouched = None
asked (Generated captured) = None
asked Closed = None
asked Passed = None

-- how many cells an action needs beyond those in use
abbrev pub needs : Request → List Block → ℕ
needs (Enter item) blocks = need (item ∷ []) blocks
needs (Load side c) blocks = 0
needs (Store side c n) blocks = 0
needs (Combine side op c n) blocks = 0
needs (Leave item) blocks = 0
needs (Remove s) blocks = 0
needs (CopyIn c) blocks = 0
needs (CopyOut c) blocks = 0

-- the next action of an item would create more cells than its device has room for
abbrev pub is_over : ℕ → Plan → State → ℕ → Bool
is_over capacity plan s i = elim (asked (s.condition i)) [
  | None ↦ false
  | Some request ↦
      let blocks = (s.memories.devices (device_of plan i)).blocks in nat_lt capacity (in_use blocks + needs request blocks)
]

abbrev pub FollowsOn : ℕ → ℕ → Standing → Standing → Type 0
FollowsOn d i old new = (plan : Plan) (s : State) → IsOnDevice plan i d → IsAt plan old s →
    enabled plan s (Step i) ≡ true → IsSomeAnd (step plan (fill_from old) (order_from old) s (Step i)) (IsAt plan new)

-- the next action of an item has room, or has none
abbrev pub HasRoomAt : ℕ → ℕ → ℕ → Standing → Bool → Type 0
HasRoomAt capacity d i now over = (plan : Plan) (s : State) → IsOnDevice plan i d → IsAt plan now s →
    enabled plan s (Step i) ≡ true → is_over capacity plan s i ≡ over

abbrev pub FailsOn : ℕ → ℕ → Standing → Type 0
FailsOn d i now = (plan : Plan) (s : State) → IsOnDevice plan i d → IsAt plan now s →
    enabled plan s (Step i) ≡ true → step plan (fill_from now) (order_from now) s (Step i) ≡ None

-- why an action is not done: for want of memory, for want of room, or it fails
abbrev pub IsStepFault : ℕ → ℕ → ℕ → Standing → RunFault → Type 0
IsStepFault capacity d i now fault.OutOfMemory = Unit {0}
IsStepFault capacity d i now fault.DeviceFull = HasRoomAt capacity d i now true
IsStepFault capacity d i now fault.Absent = HasRoomAt capacity d i now false × FailsOn d i now
IsStepFault capacity d i now fault.Stranger = ⊥
IsStepFault capacity d i now fault.ThreadNotStarted = ⊥
IsStepFault capacity d i now fault.OtherState = ⊥
IsStepFault capacity d i now fault.RangeRefused = ⊥

-- an entry was counted
abbrev pub HasCounted : Action → Standing → Standing → Type 0
HasCounted (action.Enter item) old new = new ≡ record old { entered = old.entered + 1 }
HasCounted _ old new = new ≡ old

-- a state is shown in which the item's next action may happen
pub record IsShown (d i : ℕ) (now : Standing) : Type 0 where
  pub plan : Plan
  pub state : State
  pub device : IsOnDevice plan i d
  pub at : IsAt plan now state
  pub may : enabled plan state (Step i) ≡ true

-- an action was done on the host memory and a device, and gave this
pub record ActsOn (d : ℕ) (on_host : Bool) (a : Action) (r : Given) (old : Devices) (host : Arrays) (new : Devices)
    (host' : Arrays) : Type 0 where
  pub after : Table
  pub becomes : Becomes d old new after
  pub acts : Acts on_host a r becomes.before host after host'
  pub lengths : lengths_of host' ≡ lengths_of host

-- the scalars of an item that may be opened: a deferred one has captured them, any other one takes the host's
abbrev pub Captures : Standing → Bool → ℕ → List ℕ → Type 0
Captures now deferred i scalars = (plan : Plan) (s : State) (w : Work) → slice_get plan.items i ≡ Some w →
    w.deferred ≡ deferred → IsAt plan now s → enabled plan s (Open i) ≡ true →
    captured_by (s.condition i) s.scalars ≡ slice_index scalars

-- what a host region did to the scalars and the input is the host's, and its numbers were printed
pub record HasLeftHost (control : Control) (old new : Standing) : Type 0 where
  pub scalars : slice_index new.scalars ≡ slice_index control.strand.scalars
  pub input : new.input.now ≡ control.strand.input.now
  pub output : new.output.items ≡ old.output.items ++ control.strand.printed.items
  pub rest : new ≡ record old { scalars = new.scalars; input = new.input; output = new.output }

-- what an item of this kind leaves of what the host has
abbrev pub HasLeft : ItemKind → Control → Standing → Standing → Type 0
HasLeft kind.Host control old new = HasLeftHost control old new
HasLeft kind.Target control old new = new ≡ old
HasLeft kind.Begin control old new = new ≡ old
HasLeft kind.End control old new = new ≡ old
HasLeft kind.Enter control old new = new ≡ old
HasLeft kind.Exit control old new = new ≡ old
HasLeft kind.Update control old new = new ≡ old
HasLeft kind.Wait control old new = new ≡ old
