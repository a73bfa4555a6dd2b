-- What proofs see of the fine-grained machine.
use Rattle.base.specs.declared.item.Event.{Event}
use Rattle.base.specs.declared.item.Event.TheVariants as event
use Rattle.std.specs.Prelude.{ℕ, ◌≡◌, All, ◌<◌, ◌≤◌, ◌^◌, Bool, true, false, ◌&&◌, ◌==◌, List, [], ◌∷◌, ◌++◌, Option, Some, None, length, if◌then◌else◌, option_map, slice_get, IsTrue}
use Rattle.base.specs.declared.item.Cell.{Cell}
use Rattle.base.specs.declared.item.Section.{Section}
use Rattle.base.specs.declared.item.MapItem.{MapItem}
use Rattle.base.specs.declared.item.Loc.{Loc}
use Rattle.base.specs.declared.item.Loc.TheVariants as at
use Rattle.base.specs.declared.tree.Program.{Program}
use Rattle.base.specs.Items.{Plan, plan}
use Rattle.base.specs.Map.{Fill}
use Rattle.base.specs.Machine.{on_item}
use Rattle.fine_machine.specs.Left.{Left, Finished, Asks, Request, Store, Combine, Enter, Leave, Answer}
use Rattle.fine_machine.specs.Machine.{State, Condition, Untouched, Generated, Opened, Closed, Passed, as_whole, whole_condition, step, start, with_condition, moves_on, RunFrom, HasEnded}
use Rattle.fine_machine.specs.Machine as fine
use Rattle.base.specs.Actions.{rests}
use Rattle.base.specs.Accepted.{is_target}
use Rattle.base.specs.Blocks.{AreApart, holder}
use Rattle.regions.specs.Footprints.{BoundedView, BoundedScalars}
use Rattle.machine.specs.Board.{Move, Board, Condition as Phase}
use Rattle.machine.specs.Board.Condition.{Opened as opened}
use Rattle.machine.specs.Board.Move.{Gen, Open, Step, Close, Wait}
use Rattle.machine.specs.Machine.{Parts}
use Rattle.two_memories.specs.Two.{Spot, Holding, Number, Entry, Hosted, hosted, items_of, device_of, blocks_before, resting_maps, number_inside, sum_below, less, AllLawful, BoundedFill}
use Rattle.two_memories.specs.Two as two

-- what a run does not change: the contents of the storage that each item creates, and the order of its turns
pub record Fixed : Type 0 where
  pub plan : Plan
  pub fill : ℕ → Fill
  pub order : ℕ → List ℕ

-- a state, or one that a failure left, with the resting map items that each item has entered and not yet left
pub record FineState : Type 0 where
  pub fixed : Fixed
  pub state : State
  pub failed : Bool
  pub entered : ℕ → List MapItem

-- an item's own part: how far it is, with what is left of it, and the resting map items that it has entered and not yet
-- left
pub record Own : Type 0 where
  pub phase : Phase
  pub condition : Condition
  pub entered : List MapItem

abbrev pub board_of : Plan → State → Board
board_of plan s = two.board_of plan (as_whole s)

abbrev pub own_of : Plan → State → (ℕ → List MapItem) → ℕ → Own
own_of plan s entered i =
    record {
      phase = (board_of plan s).condition i;
      condition = on_item plan i Untouched (λ w. s.condition i);
      entered = entered i;
    }

-- The table.

-- how often an item has entered a section on device d, where it rests, and not yet left it
abbrev pub entered_on : Plan → (ℕ → List MapItem) → ℕ → Section → ℕ → ℕ
entered_on plan entered d section i = if device_of plan i == d then number_inside (entered i) section else 0

abbrev pub resting_in : Plan → (ℕ → List MapItem) → ℕ → Section → ℕ
resting_in plan entered d section = sum_below (length plan.items) (entered_on plan entered d section)

abbrev pub value_at : Plan → State → (ℕ → List MapItem) → Spot → Holding
value_at plan s entered l = of l.loc
  where
    of : Loc → Holding
    of at.Host = Number (Some (s.memories.host l.cell))
    of (at.Dev d) = Number ((s.memories.devices d).cells l.cell)
    of (at.Tab d) =
        Entry (option_map (less (resting_in plan entered d)) (holder (s.memories.devices d).blocks l.cell))

-- a map item of item i that rests
abbrev pub is_resting : Plan → ℕ → MapItem → Bool
is_resting plan i m = on_item plan i false (λ w. is_target w.kind && rests (blocks_before plan i) m)

abbrev pub all_but_first : List MapItem → List MapItem
all_but_first [] = []
all_but_first (m ∷ ms) = ms

-- a resting map item is entered, or left: they are left in the order in which they were entered
abbrev pub entered_now : (MapItem → Bool) → Request → List MapItem → List MapItem
entered_now resting (Enter m) ms = if resting m then ms ++ m ∷ [] else ms
entered_now resting (Leave m) ms = if resting m then all_but_first ms else ms
entered_now resting _ ms = ms

abbrev pub entered_by : (MapItem → Bool) → Condition → List MapItem → List MapItem
entered_by resting (Opened (Asks r k)) ms = entered_now resting r ms
entered_by resting _ ms = ms

abbrev pub entered_after : Plan → State → (ℕ → List MapItem) → Event → ℕ → List MapItem
entered_after plan s entered (event.Step i) k =
    if k == i then entered_by (is_resting plan i) (s.condition i) (entered i) else entered k
entered_after plan s entered (event.Gen i) k = entered k
entered_after plan s entered (event.Open i) k = entered k
entered_after plan s entered (event.Close i) k = entered k
entered_after plan s entered (event.Wait i) k = entered k
entered_after plan s entered event.End k = entered k

-- Steps.

abbrev pub event_of : Plan → Move → Event
event_of plan (Gen i) = event.Gen i
event_of plan (Open i) = event.Open i
event_of plan (Step i) = event.Step i
event_of plan (Close i) = event.Close i
event_of plan (Wait i) = if i == length plan.items then event.End else event.Wait i

-- what is left of an item whose opening failed: nothing
abbrev pub nothing_left : Left
nothing_left = Finished (record { scalars = λ x. 0; stores = []; input = []; printed = [] })

-- where a failure leaves the board
abbrev pub failing : Plan → State → Event → State
failing plan s (event.Open i) = with_condition i (Opened nothing_left) s
failing plan s (event.Close i) = moves_on (on_item plan i false (λ w. w.deferred)) (with_condition i Closed s)
failing plan s (event.Step i) = s
failing plan s (event.Gen i) = s
failing plan s (event.Wait i) = s
failing plan s event.End = s

abbrev pub result_of : FineState → Event → Option State → FineState
result_of s e None = record s { state = failing s.fixed.plan s.state e; failed = true }
result_of s e (Some t) = record s { state = t; entered = entered_after s.fixed.plan s.state s.entered e }

abbrev pub next : FineState → Event → FineState
next s e = result_of s e (step s.fixed.plan s.fixed.fill s.fixed.order s.state e)

abbrev pub next_move : FineState → Move → FineState
next_move s e = next s (event_of s.fixed.plan e)

pub record MayDo (s : FineState) (e : Move) : Type 0 where
  pub sound : s.failed ≡ false
  pub enabled : IsTrue (fine.enabled s.fixed.plan s.state (event_of s.fixed.plan e))

-- What holds of every state.

-- numbers below 2^64 in what an action stores, and in what is left of an item, whatever is loaded
abbrev pub BoundedRequest : Request → Type 0
BoundedRequest (Store side c n) = n < 2 ^ 64
BoundedRequest (Combine side op c n) = n < 2 ^ 64
BoundedRequest (Enter item) = 1 ≤ item.section.length
BoundedRequest _ = Unit {0}

abbrev pub BoundedLeft : Left → Type 0
BoundedLeft (Finished t) = record { scalars : BoundedScalars t.scalars; input : All (λ n. n < 2 ^ 64) t.input }
BoundedLeft (Asks r k) = BoundedRequest r × ((a : Answer) → a.number < 2 ^ 64 → BoundedLeft (k a))

abbrev pub BoundedCondition : Condition → Type 0
BoundedCondition (Generated captured) = BoundedScalars captured
BoundedCondition (Opened left) = BoundedLeft left
BoundedCondition _ = Unit {0}

pub record IsBounded (s : State) : Type 0 where
  pub host : (c : Cell) → s.memories.host c < 2 ^ 64
  pub devices : (d : ℕ) → BoundedView (s.memories.devices d).cells
  pub scalars : BoundedScalars s.scalars
  pub input : All (λ n. n < 2 ^ 64) s.input
  pub condition : (i : ℕ) → BoundedCondition (s.condition i)

-- each of these is a map item of item i that rests
abbrev pub AreResting : Plan → ℕ → List MapItem → Type 0
AreResting plan i ms =
    (k : ℕ) (m : MapItem) → slice_get ms k ≡ Some m → (q : ℕ) × (slice_get (resting_maps plan i) q ≡ Some m)

-- an entry of one that rests is an entry of one of the item's
abbrev pub OwnEntry : Plan → ℕ → Request → Type 0
OwnEntry plan i (Enter m) = is_resting plan i m ≡ true → (q : ℕ) × (slice_get (resting_maps plan i) q ≡ Some m)
OwnEntry plan i _ = Unit {0}

-- what is left of item i, whatever it loads, leaves all that it has entered and rests
abbrev pub LeavesAll : Plan → ℕ → List MapItem → Left → Type 0
LeavesAll plan i ms (Finished t) = ms ≡ []
LeavesAll plan i ms (Asks r k) =
    OwnEntry plan i r
    × ((a : Answer) → a.number < 2 ^ 64 → LeavesAll plan i (entered_now (is_resting plan i) r ms) (k a))

-- an item that is not open has nothing entered
abbrev pub IsSettled : Plan → ℕ → List MapItem → Condition → Type 0
IsSettled plan i ms (Opened left) = LeavesAll plan i ms left
IsSettled plan i ms _ = ms ≡ []

pub record AreSettled (plan : Plan) (entered : ℕ → List MapItem) (condition : ℕ → Condition) : Type 0 where
  pub resting : (i : ℕ) → AreResting plan i (entered i)
  pub settled : (i : ℕ) → IsSettled plan i (entered i) (condition i)

pub record IsValid (s : FineState) : Type 0 where
  pub lawful : AllLawful s.fixed.plan
  pub fill : BoundedFill s.fixed.fill
  pub bounded : IsBounded s.state
  -- the host stands at an open item that is not deferred, and has not reached a deferred one that is untouched
  pub here : (i : ℕ) → on_item s.fixed.plan i true (λ w. w.deferred) ≡ false →
      (board_of s.fixed.plan s.state).condition i ≡ opened → s.state.place ≡ i
  pub ahead : (i : ℕ) → on_item s.fixed.plan i false (λ w. w.deferred) ≡ true → s.state.place ≤ i →
      (as_whole s.state).condition i ≡ whole_condition Untouched
  -- a count can be 0 until the block is removed
  pub blocks : (d : ℕ) → AreApart (s.state.memories.devices d).blocks
  pub settled : AreSettled s.fixed.plan s.entered s.state.condition

pub record IsStart (s : FineState) : Type 0 where
  pub lawful : AllLawful s.fixed.plan
  pub fill : BoundedFill s.fixed.fill
  pub input : List ℕ
  pub numbers : All (λ n. n < 2 ^ 64) input
  pub state : s.state ≡ start input
  pub entered : s.entered ≡ (λ i. [])
  pub sound : s.failed ≡ false

abbrev pub parts : Parts FineState Spot
parts = record {
  Value = Holding;
  Own = Own;
  Host = Hosted;
  Fixed = Fixed;
  fixed = λ s. s.fixed;
  plan = λ f. items_of f.plan;
  board = λ s. board_of s.fixed.plan s.state;
  value = λ s. value_at s.fixed.plan s.state s.entered;
  own = λ s. own_of s.fixed.plan s.state s.entered;
  host = λ s. hosted (as_whole s.state);
  failed = λ s. s.failed;
  starts = IsStart;
  valid = IsValid;
  enabled = MayDo;
  step = λ s e t. t ≡ next_move s e;
}

-- a run of the fine-grained machine that has not ended can go on, whether its program is accepted or not
abbrev pub AFineRunGoesOn : Type 0
AFineRunGoesOn =
    (p : Program) (input : List ℕ) (fill : ℕ → Fill) (order : ℕ → List ℕ) (events : List Event) (s : State) →
    RunFrom (plan p) fill order input events (Some s) →
    (HasEnded (plan p) s → ⊥) →
    (e : Event) × IsTrue (fine.enabled (plan p) s e)
