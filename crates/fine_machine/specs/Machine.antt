-- The fine-grained machine: host and items interleave at each single action.
use Rattle.std.specs.Prelude.{ℕ, ◌≡◌, zero, suc, ◌+◌, ◌%◌, Bool, true, false, ◌==◌, List, [], ◌∷◌, ◌++◌, Option, Some, None, map, filter, flat_map, slice_get, length, if◌then◌else◌, option_map, IsTrue}
use Rattle.std.specs.List.{range_with_len}
use Rattle.base.specs.declared.item.ItemKind.{ItemKind}
use Rattle.base.specs.declared.item.ItemKind.TheVariants as kind
use Rattle.base.specs.declared.item.Event.{Event}
use Rattle.base.specs.declared.item.Event.TheVariants.{Gen, Open, Step, Close, Wait, End}
use Rattle.base.specs.Memory.{Scalars, zeros}
use Rattle.base.specs.Meaning.{Run as Region_run}
use Rattle.base.specs.Items.{Work, Plan}
use Rattle.base.specs.Map.{Memories, AllMemories, memories_at, with_memories_at, Fill}
use Rattle.base.specs.Machine.{State as Whole, Condition as Whole_condition, on_item, first_or_zero, rest_of}
use Rattle.base.specs.Machine as two
use Rattle.base.specs.Machine.Condition.{Untouched as untouched, Generated as generated, Opened as opened, Closed as closed, Passed as passed}
use Rattle.fine_machine.specs.Left.{Left, Finished, Asks, item_left}
use Rattle.fine_machine.specs.Action.{act}

-- how far an item is: generated with the scalars that it captured, or open with what is left of it. A wait is passed
pub data Condition : Type 0 where
  Untouched : Condition
  Generated : (captured : Scalars) → Condition
  Opened : (left : Left) → Condition
  Closed : Condition
  Passed : Condition

pub record State : Type 0 where
  -- where the host stands: an item, past the last, or one further where `End` was done
  pub place : ℕ
  pub memories : AllMemories
  pub scalars : Scalars
  pub input : List ℕ
  pub output : List ℕ
  pub condition : ℕ → Condition

abbrev pub start : List ℕ → State
start input = record {
  place = 0;
  memories = record { host = zeros; devices = λ d. record { blocks = []; cells = λ c. None } };
  scalars = λ x. 0;
  input = input;
  output = [];
  condition = λ i. Untouched;
}

-- the state as the machine has it that opens and closes whole items, with no snapshot
abbrev pub whole_condition : Condition → Whole_condition
whole_condition Untouched = untouched
whole_condition (Generated captured) = generated captured
whole_condition (Opened left) = opened (λ x. 0) (λ c. None)
whole_condition Closed = closed
whole_condition Passed = passed

abbrev pub as_whole : State → Whole
as_whole s =
    record {
      place = s.place;
      memories = s.memories;
      scalars = s.scalars;
      input = s.input;
      output = s.output;
      condition = λ i. whole_condition (s.condition i);
    }

abbrev pub has_step : Condition → Bool
has_step (Opened (Asks r k)) = true
has_step (Opened (Finished t)) = false
has_step Untouched = false
has_step (Generated captured) = false
has_step Closed = false
has_step Passed = false

abbrev pub is_finished : Condition → Bool
is_finished (Opened (Finished t)) = true
is_finished (Opened (Asks r k)) = false
is_finished Untouched = false
is_finished (Generated captured) = false
is_finished Closed = false
is_finished Passed = false

-- whether an event may happen next: an open item's is its step, and its close where nothing is left of it
abbrev pub enabled : Plan → State → Event → Bool
enabled plan s (Gen i) = two.enabled plan (as_whole s) (Gen i)
enabled plan s (Open i) = two.enabled plan (as_whole s) (Open i)
enabled plan s (Step i) = on_item plan i false (λ w. has_step (s.condition i))
enabled plan s (Close i) = on_item plan i false (λ w. is_finished (s.condition i))
enabled plan s (Wait i) = two.enabled plan (as_whole s) (Wait i)
enabled plan s End = two.enabled plan (as_whole s) End

abbrev pub with_condition : ℕ → Condition → State → State
with_condition i c s = record s { condition = λ k. if k == i then c else s.condition k }

-- the host moves on, past an item that is not deferred
abbrev pub moves_on : Bool → State → State
moves_on true s = s
moves_on false s = record s { place = s.place + 1 }

abbrev pub captured_by : Condition → Scalars → Scalars
captured_by (Generated captured) scalars = captured
captured_by Untouched scalars = scalars
captured_by (Opened left) scalars = scalars
captured_by Closed scalars = scalars
captured_by Passed scalars = scalars

-- the input is the host's
abbrev pub input_of : ItemKind → List ℕ → List ℕ
input_of kind.Host input = input
input_of kind.Target input = []
input_of kind.Begin input = []
input_of kind.End input = []
input_of kind.Enter input = []
input_of kind.Exit input = []
input_of kind.Update input = []
input_of kind.Wait input = []

-- where an item's region begins
abbrev pub begun : Work → Condition → State → Region_run
begun w c s = record { scalars = captured_by c s.scalars; stores = []; input = input_of w.kind s.input; printed = [] }

abbrev pub open_item : List ℕ → ℕ → Work → State → Option State
open_item order i w s =
    option_map (λ left. with_condition i (Opened left) s)
    (item_left order w (s.memories.devices w.device).blocks (begun w (s.condition i) s))

-- the device on which an item works
abbrev pub device_of : Plan → ℕ → ℕ
device_of plan i = on_item plan i 0 (λ w. w.device)

-- the two memories of device d became these
abbrev pub with_memories : ℕ → Memories → State → State
with_memories d m s = record s { memories = with_memories_at d m s.memories }

-- the next action of an open item, on the host memory and the storage of its device
abbrev pub step_item : Plan → Fill → ℕ → Condition → State → Option State
step_item plan fill i (Opened (Asks r k)) s =
    let d = device_of plan i in
    option_map (λ p. with_condition i (Opened (k p.0)) (with_memories d p.1 s))
    (act plan.lengths fill r (memories_at d s.memories))
step_item plan fill i (Opened (Finished t)) s = None
step_item plan fill i Untouched s = None
step_item plan fill i (Generated captured) s = None
step_item plan fill i Closed s = None
step_item plan fill i Passed s = None

-- a host region is done: its scalars, its input and its output are the host's
abbrev pub host_done : ItemKind → Region_run → State → State
host_done kind.Host t s = record s { scalars = t.scalars; input = t.input; output = s.output ++ t.printed }
host_done kind.Target t s = s
host_done kind.Begin t s = s
host_done kind.End t s = s
host_done kind.Enter t s = s
host_done kind.Exit t s = s
host_done kind.Update t s = s
host_done kind.Wait t s = s

abbrev pub close_item : ℕ → Work → Condition → State → Option State
close_item i w (Opened (Finished t)) s = Some (moves_on w.deferred (with_condition i Closed (host_done w.kind t s)))
close_item i w (Opened (Asks r k)) s = None
close_item i w Untouched s = None
close_item i w (Generated captured) s = None
close_item i w Closed s = None
close_item i w Passed s = None

-- an event that may happen happens, or none where the run fails. fill i has the contents of the storage that item i
-- creates, and order i says in which order its turns go on
abbrev pub step : Plan → (ℕ → Fill) → (ℕ → List ℕ) → State → Event → Option State
step plan fill order s (Gen i) = Some (moves_on false (with_condition i (Generated s.scalars) s))
step plan fill order s (Open i) = on_item plan i None (λ w. open_item (order i) i w s)
step plan fill order s (Step i) = step_item plan (fill i) i (s.condition i) s
step plan fill order s (Close i) = on_item plan i None (λ w. close_item i w (s.condition i) s)
step plan fill order s (Wait i) = Some (moves_on false (with_condition i Passed s))
step plan fill order s End = Some (moves_on false s)

-- a run: from a state, or a failure (none), these events lead to the end. After a failure there is no event
abbrev pub Run : Plan → (ℕ → Fill) → (ℕ → List ℕ) → Option State → List Event → Option State → Type 0
Run plan fill order s [] end = end ≡ s
Run plan fill order (Some s) (e ∷ rest) end = IsTrue (enabled plan s e) × Run plan fill order (step plan fill order s e) rest end
Run plan fill order None (e ∷ rest) end = ⊥

-- a run from the zero memory and no blocks, with this input
abbrev pub RunFrom : Plan → (ℕ → Fill) → (ℕ → List ℕ) → List ℕ → List Event → Option State → Type 0
RunFrom plan fill order input events end = Run plan fill order (Some (start input)) events end

-- `End` was done
abbrev pub HasEnded : Plan → State → Type 0
HasEnded plan s = s.place ≡ length plan.items + 1

-- the events that may happen next, in the order in which choices count them
abbrev pub all_enabled : Plan → State → List Event
all_enabled plan s =
    let all = range_with_len 0 (length plan.items) in
    filter (enabled plan s)
    (flat_map (λ i. Step i ∷ Close i ∷ []) all ++ (map Open all ++ (Gen s.place ∷ Wait s.place ∷ End ∷ [])))

-- a run so far: its events, and its state or none where it failed
pub record Played : Type 0 where
  pub history : List Event
  pub state : Option State

-- at most n events of the run that follows the choices. It stops where no event may happen
abbrev pub follow : Plan → (ℕ → Fill) → (ℕ → List ℕ) → ℕ → List ℕ → List Event → Option State → Played
follow plan fill order n choices history None = record { history = history; state = None }
follow plan fill order zero choices history (Some s) = record { history = history; state = Some s }
follow plan fill order (suc n) choices history (Some s) =
    let next = all_enabled plan s in
    elim (slice_get next (first_or_zero choices % length next)) [
      | None ↦ record { history = history; state = Some s }
      | Some e ↦ follow plan fill order n (rest_of choices) (history ++ e ∷ []) (step plan fill order s e)
    ]

-- the same from the start. A run has no more events than some number, which its loads may decide
abbrev pub run_by_choices : Plan → (ℕ → Fill) → (ℕ → List ℕ) → ℕ → List ℕ → List ℕ → Played
run_by_choices plan fill order most input choices = follow plan fill order most choices [] (Some (start input))

-- of an open item either an action or the close comes next
abbrev pub OneEventNext : Type 0
OneEventNext =
    (plan : Plan) (s : State) (i : ℕ) → IsTrue (enabled plan s (Step i)) → IsTrue (enabled plan s (Close i)) → ⊥
