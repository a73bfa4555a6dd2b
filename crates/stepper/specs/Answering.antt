-- What a whole run by choices of the fine-grained machine answers.
use Rattle.std.specs.Prelude.{ℕ, ◌≡◌, ◌<◌, ◌≤◌, ◌%◌, true, List, [], Option, Some, None, drop, length, map, slice_get, slice_index}
use Rattle.base.specs.declared.fault.RunFault.{RunFault}
use Rattle.base.specs.declared.fault.RunFault.TheVariants as fault
use Rattle.base.specs.declared.fault.RangeFault.{RangeFault}
use Rattle.base.specs.declared.item.Answer.{Answer}
use Rattle.base.specs.declared.item.Event.{Event}
use Rattle.base.specs.declared.item.Event.TheVariants.{Step}
use Rattle.base.specs.declared.tree.Program.{Program}
use Rattle.base.specs.Accepted.{IsAccepted, IsFault, Range}
use Rattle.host_memory.specs.declared.memory.Memory.{Memory as Arrays}
use Rattle.base.specs.declared.tree.ArrayId.{ArrayId}
use Rattle.base.specs.Answer.{array_values, finals_in, marked_values}
use Rattle.host_memory.specs.Arrays.{lengths_of, memory_of}
use Rattle.mapcheck.specs.Third.{AreMarked}
use Rattle.base.specs.Headline.{IsFill}
use Rattle.base.specs.Items.{Plan, plan}
use Rattle.base.specs.Machine.{first_or_zero}
use Rattle.base.specs.Map.{Fill, in_use}
use Rattle.base.specs.Meaning.{Plain, erased, output_of}
use Rattle.device.specs.Devices.{device_count}
use Rattle.fine_machine.specs.Machine.{HasEnded, State, all_enabled, run_by_choices, step}
use Rattle.mapwalk.specs.Walk.{HasNoRangeFault}
use Rattle.stepper.specs.declared.standing.Standing.{Standing}
use Rattle.stepper.specs.Order.{same_order}
use Rattle.stepper.specs.Standing.{is_over}
use Rattle.stepper.specs.Taking.{has_room}

-- each device has at most so many cells in use
abbrev pub IsWithin : ℕ → Option State → Type 0
IsWithin capacity None = Unit {0}
IsWithin capacity (Some s) = (d : ℕ) → d < device_count → in_use (s.memories.devices d).blocks ≤ capacity

-- of the events that may happen next, the one that the next choice takes, counted around
abbrev pub next_by : Plan → State → List ℕ → Option Event
next_by p s choices = let next = all_enabled p s in slice_get next (first_or_zero choices % length next)

-- the first n events of the run by these choices were done, and at each moment each device had room
pub record HasRun (p : Program) (input choices : List ℕ) (capacity : ℕ) (fill : ℕ → Fill) (order : ℕ → List ℕ) (history : List Event) (s : State) : Type 0 where
  pub is_fill : IsFill fill
  pub ran : run_by_choices (plan p) fill order (length history) input choices ≡ record { history = history; state = Some s }
  pub within : (n : ℕ) → n ≤ length history → IsWithin capacity (run_by_choices (plan p) fill order n input choices).state

-- the output of the program without its directives, and its values of the arrays marked current
pub record IsErasedAnswer (p : Program) (input : List ℕ) (a : Answer) : Type 0 where
  pub plain : Plain
  pub is_erased : erased p input ≡ Some plain
  pub output : a.out.items ≡ output_of plain.printed
  pub finals : finals_in a ≡ marked_values p plain.memory

-- the program has no fault of range; the history is that of the run by these choices and these
-- numbers of turns, which has ended, and the output is
-- that run's. Of an accepted program it is the answer of the program without its directives; of a refused one
-- no array is shown
pub record IsFineAnswer (p : Program) (input choices turns : List ℕ) (capacity : ℕ) (a : Answer) : Type 0 where
  pub fine : HasNoRangeFault (plan p)
  pub fill : ℕ → Fill
  pub end : State
  pub ran : HasRun p input choices capacity fill (same_order turns) a.history.items end
  pub ended : HasEnded (plan p) end
  pub output : a.out.items ≡ output_of end.output
  pub accepted : IsAccepted (plan p) → IsErasedAnswer p input a
  pub refused : (IsAccepted (plan p) → ⊥) → finals_in a ≡ []

-- the run by these choices comes to an action that would create more cells than its device has room for
pub record IsFull (p : Program) (input choices turns : List ℕ) (capacity : ℕ) : Type 0 where
  pub fine : HasNoRangeFault (plan p)
  pub fill : ℕ → Fill
  pub history : List Event
  pub now : State
  pub ran : HasRun p input choices capacity fill (same_order turns) history now
  pub item : ℕ
  pub next : next_by (plan p) now (drop (length history) choices) ≡ Some (Step item)
  pub over : is_over capacity (plan p) now item ≡ true

-- the run by these choices comes to an event that fails, though there is room; the program is not accepted
pub record IsFailed (p : Program) (input choices turns : List ℕ) (capacity : ℕ) : Type 0 where
  pub fine : HasNoRangeFault (plan p)
  pub fill : ℕ → Fill
  pub history : List Event
  pub now : State
  pub ran : HasRun p input choices capacity fill (same_order turns) history now
  pub event : Event
  pub next : next_by (plan p) now (drop (length history) choices) ≡ Some event
  pub room : has_room capacity (plan p) now event
  pub fails : step (plan p) fill (same_order turns) now event ≡ None
  pub refused : IsAccepted (plan p) → ⊥

-- a section leaves its array, a subscript may, or a region has too many turns
pub record HasRangeFault (p : Program) : Type 0 where
  pub item : ℕ
  pub fault : RangeFault
  pub is : IsFault (plan p) (Range item fault)

-- why there is no answer
abbrev pub IsFineFault : Program → List ℕ → List ℕ → List ℕ → ℕ → RunFault → Type 0
IsFineFault p input choices turns capacity fault.OutOfMemory = Unit {0}
IsFineFault p input choices turns capacity fault.RangeRefused = HasRangeFault p
IsFineFault p input choices turns capacity fault.DeviceFull = IsFull p input choices turns capacity
IsFineFault p input choices turns capacity fault.Absent = IsFailed p input choices turns capacity
IsFineFault p input choices turns capacity fault.Stranger = ⊥
IsFineFault p input choices turns capacity fault.ThreadNotStarted = ⊥
IsFineFault p input choices turns capacity fault.OtherState = ⊥

-- the arrays marked current where the program is accepted, and none where it is refused; it has no fault of range
pub record AreShown (p : Program) (arrays : List ArrayId) : Type 0 where
  pub fine : HasNoRangeFault (plan p)
  pub accepted : IsAccepted (plan p) → AreMarked (plan p) arrays
  pub refused : (IsAccepted (plan p) → ⊥) → arrays ≡ []

abbrev pub IsShownFault : Program → RunFault → Type 0
IsShownFault p fault.OutOfMemory = Unit {0}
IsShownFault p fault.RangeRefused = HasRangeFault p
IsShownFault p fault.DeviceFull = ⊥
IsShownFault p fault.Absent = ⊥
IsShownFault p fault.Stranger = ⊥
IsShownFault p fault.ThreadNotStarted = ⊥
IsShownFault p fault.OtherState = ⊥

-- an array's number with its numbers on the host
abbrev pub row_in : Arrays → ArrayId → ℕ × List ℕ
row_in host a = (a.0, array_values (memory_of host) a.0 (slice_index (lengths_of host) a.0))

-- the answer has what was printed, the numbers of these arrays on the host, and the events
pub record IsAnswerOf (now : Standing) (arrays : List ArrayId) (events : List Event) (a : Answer) : Type 0 where
  pub out : a.out.items ≡ output_of now.output.items
  pub finals : finals_in a ≡ map (row_in now.host) arrays
  pub history : a.history.items ≡ events
