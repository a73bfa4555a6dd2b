-- The state of the machine that the code's values show.
use Rattle.std.specs.Prelude.{◌≡◌, ◌+◌, ℕ, Bool, true, false, List, [], Option, Some, None, length, map, slice_get, slice_index}
use Rattle.base.specs.declared.item.Event.{Event}
use Rattle.base.specs.declared.item.ItemKind.{ItemKind}
use Rattle.base.specs.declared.item.ItemKind.TheVariants as kind
use Rattle.base.specs.declared.tree.Region.{Region}
use Rattle.host_memory.specs.Arrays.{memory_of, lengths_of}
use Rattle.base.specs.Memory.{View, Scalars}
use Rattle.base.specs.Meaning.{Run as Region_run, run_region}
use Rattle.base.specs.Items.{Work, Plan}
use Rattle.base.specs.Map.{Fill}
use Rattle.base.specs.Machine.{State, Condition, Untouched, Generated, Opened, Closed, Passed, deferred_closed, enabled, step}
use Rattle.kernel.specs.declared.frames.Frame.{Frame}
use Rattle.kernel.specs.declared.frames.Row.{Row}
use Rattle.frames.specs.Laws.{AreSmall}
use Rattle.kernel.specs.Rows.{cells_of}
use Rattle.shared_row.specs.Rows.{numbers_in}
use Rattle.regions.specs.Footprints.{BoundedView}
use Rattle.device.specs.Devices.{AreAlike, ShowAll, fresh_of}
use Rattle.device.specs.Moves.{CountsAtMost}
use Rattle.taskgraph.specs.Board.{Stands}
use Rattle.device.specs.declared.standing.Held.{Held}
use Rattle.device.specs.declared.standing.Held.TheVariants as held
use Rattle.device.specs.declared.standing.Standing.{Standing}

-- what the region of an item reads its input from; a target reads none
abbrev pub input_for : ItemKind → List ℕ → List ℕ
input_for kind.Host input = input
input_for kind.Target input = []
input_for kind.Begin input = []
input_for kind.End input = []
input_for kind.Enter input = []
input_for kind.Exit input = []
input_for kind.Update input = []
input_for kind.Wait input = []

-- a frame by value: its item, the loops' values, the scalars, the first place and the numbers of each row, the input
pub record Issue : Type 0 where
  pub item : ℕ
  pub loops : List ℕ
  pub scalars : List ℕ
  pub rows : List (ℕ × List ℕ)
  pub input : List ℕ

abbrev pub row_parts : Row → ℕ × List ℕ
row_parts r = (r.first, numbers_in r.cells)

abbrev pub frame_parts : Frame → Issue
frame_parts f =
    record {
      item = f.item;
      loops = f.loops.now.values.items;
      scalars = f.scalars;
      rows = map row_parts f.rows.items;
      input = f.input.now;
    }

-- the frame that is kept for an item, if it was issued
abbrev pub issue_of : Held → Option Issue
issue_of held.Nothing = None
issue_of (held.Captured scalars) = None
issue_of (held.Issued frame) = Some (frame_parts frame)

-- what a region does on a frame
abbrev pub done_on : Region → Frame → Option Region_run
done_on r f = run_region r f.loops.now.values.items (cells_of f.rows.items) (slice_index f.scalars) f.input.now

-- the frame of an open item: its region does on it what it does on what the item captured and saw
pub record IsFrameOf (i : ℕ) (w : Work) (captured : Scalars) (snapshot : View) (input : List ℕ) (f : Frame) : Type 0 where
  pub item : f.item ≡ i
  pub bounded : BoundedView (cells_of f.rows.items)
  pub small : AreSmall f.loops.now.values.items (slice_index f.scalars) f.input.now
  pub loops : f.loops.now.values.items ≡ w.loops
  pub meaning : (r : Region) → w.region ≡ Some r →
      run_region r w.loops snapshot captured (input_for w.kind input) ≡ done_on r f

abbrev pub IsCaptured : Scalars → Option Held → Type 0
IsCaptured captured None = ⊥
IsCaptured captured (Some held.Nothing) = ⊥
IsCaptured captured (Some (held.Captured scalars)) = captured ≡ slice_index scalars
IsCaptured captured (Some (held.Issued frame)) = ⊥

abbrev pub IsIssued : ℕ → Work → Scalars → View → List ℕ → Option Held → Type 0
IsIssued i w captured snapshot input None = ⊥
IsIssued i w captured snapshot input (Some held.Nothing) = ⊥
IsIssued i w captured snapshot input (Some (held.Captured scalars)) = ⊥
IsIssued i w captured snapshot input (Some (held.Issued frame)) = IsFrameOf i w captured snapshot input frame

-- what is kept for an item is what its condition has
abbrev pub Keeps : ℕ → Work → List ℕ → Condition → Option Held → Type 0
Keeps i w input Untouched o = Unit {0}
Keeps i w input (Generated captured) o = IsCaptured captured o
Keeps i w input (Opened captured snapshot) o = IsIssued i w captured snapshot input o
Keeps i w input Closed o = Unit {0}
Keeps i w input Passed o = Unit {0}

-- the host's place, which the end takes one further
abbrev pub place_of : Bool → ℕ → ℕ
place_of true place = place + 1
place_of false place = place

-- the code's values show this state
pub record IsAt (plan : Plan) (now : Standing) (s : State) : Type 0 where
  pub host : s.memories.host ≡ memory_of now.host
  pub lengths : lengths_of now.host ≡ plan.lengths
  pub devices : ShowAll now.devices s.memories.devices
  pub alike : AreAlike now.devices
  pub counts : (d : ℕ) → CountsAtMost now.entered (s.memories.devices d).blocks
  pub graph : Stands plan (record s { place = now.graph.place }) now.graph
  pub place : s.place ≡ place_of now.ended now.graph.place
  pub ended : now.ended ≡ true → (now.graph.place ≡ length plan.items) × (deferred_closed plan s ≡ true)
  pub scalars : s.scalars ≡ slice_index now.scalars
  pub input : s.input ≡ now.input.now
  pub output : s.output ≡ now.output
  pub slots : length now.held.items ≡ length plan.items
  pub held : (i : ℕ) (w : Work) → slice_get plan.items i ≡ Some w →
      Keeps i w s.input (s.condition i) (slice_get now.held.items i)

-- each item's storage is created with what the tables fill it with
abbrev pub fill_from : Standing → ℕ → Fill
fill_from now i = λ c. fresh_of now.devices

-- where an event may happen in a state that is shown, the state after it is shown
abbrev pub Follows : Standing → Event → Standing → Type 0
Follows old e new = (plan : Plan) (s t : State) → IsAt plan old s → enabled plan s e ≡ true →
    step plan (fill_from old) s e ≡ Some t → IsAt plan new t

-- what is shown stays
abbrev pub Stays : Standing → Standing → Type 0
Stays old new = (plan : Plan) (s : State) → IsAt plan old s → IsAt plan new s
