-- Why a run on threads stops.
use Rattle.std.specs.Prelude.{◌≡◌, ℕ, Option, Some, None}
use Rattle.std.specs.Coded.{Coded-set, coded_bool, coded_ℕ, ×_prop, Unit-prop}
use Rattle.base.specs.declared.fault.RunFault.{RunFault}
use Rattle.base.specs.declared.fault.RunFault.TheVariants as fault
use Rattle.base.specs.Items.{plan}
use Rattle.base.specs.Machine.{HasEnded}
use Rattle.device.specs.Run.{Run, state_of}
use Rattle.host.specs.Threads.{IsFullAt}
use Rattle.host.specs.declared.board.Stop.{Stop}
use Rattle.host.specs.declared.board.Stop.TheVariants as stop

-- the state has in it why the run is stopped
abbrev pub IsCause : Run → Stop → Type 0
IsCause r stop.OutOfMemory = Unit {0}
IsCause r (stop.DeviceFull item) = IsFullAt r item
IsCause r stop.Stranger = Unit {0}
IsCause r stop.ThreadNotStarted = Unit {0}
IsCause r stop.JobBack = Unit {0}

-- the same, where the run is stopped
abbrev pub HasCause : Run → Option Stop → Type 0
HasCause r None = Unit {0}
HasCause r (Some s) = IsCause r s

-- any thread may stop the run for this cause, which lies neither in the state nor in an item that was opened
abbrev pub IsPlain : Stop → Type 0
IsPlain stop.OutOfMemory = Unit {0}
IsPlain (stop.DeviceFull item) = ⊥
IsPlain stop.Stranger = ⊥
IsPlain stop.ThreadNotStarted = Unit {0}
IsPlain stop.JobBack = ⊥

-- the first of two causes
abbrev pub first_stop : Option Stop → Stop → Option Stop
first_stop None s = Some s
first_stop (Some t) s = Some t

-- the cause is want of memory or of room, with which an event can meet
abbrev pub IsLack : Option Stop → Type 0
IsLack None = ⊥
IsLack (Some stop.OutOfMemory) = Unit {0}
IsLack (Some (stop.DeviceFull item)) = Unit {0}
IsLack (Some stop.Stranger) = ⊥
IsLack (Some stop.ThreadNotStarted) = ⊥
IsLack (Some stop.JobBack) = ⊥

-- why a run stops where an item is not opened: its device has no room for it, or there is no memory
abbrev pub lack_at : ℕ → RunFault → Stop
lack_at item fault.DeviceFull = stop.DeviceFull item
lack_at item fault.OutOfMemory = stop.OutOfMemory
lack_at item fault.Absent = stop.OutOfMemory
lack_at item fault.Stranger = stop.OutOfMemory
lack_at item fault.ThreadNotStarted = stop.OutOfMemory
lack_at item fault.OtherState = stop.OutOfMemory
lack_at item fault.RangeRefused = stop.OutOfMemory

-- a run that is stopped stays so, for the same cause and in the same state
abbrev pub StaysStopped : Option Stop → Run → Option Stop → Run → Type 0
StaysStopped None old o new = Unit {0}
StaysStopped (Some s) old o new = (o ≡ Some s) × (new ≡ old)

-- there is nothing more to do: the run was stopped, or it has ended
abbrev pub IsOver : Option Stop → Run → Type 0
IsOver None r = HasEnded (plan r.program) (state_of r)
IsOver (Some s) r = Unit {0}

-- in at most one way
pub one_over : (o : Option Stop) (r : Run) → IsProp (IsOver o r)
one_over None r = Coded-set coded_ℕ _ _
one_over (Some s) r = Unit-prop

abbrev pub fault_of : Stop → RunFault
fault_of stop.OutOfMemory = fault.OutOfMemory
fault_of (stop.DeviceFull item) = fault.DeviceFull
fault_of stop.Stranger = fault.Stranger
fault_of stop.ThreadNotStarted = fault.ThreadNotStarted
fault_of stop.JobBack = fault.OtherState

-- there is at most one cause
pub one_cause : (r : Run) (o : Option Stop) → IsProp (HasCause r o)
one_cause r None = Unit-prop
one_cause r (Some stop.OutOfMemory) = Unit-prop
one_cause r (Some (stop.DeviceFull item)) = ×_prop (Coded-set coded_bool _ _) (Coded-set coded_bool _ _)
one_cause r (Some stop.Stranger) = Unit-prop
one_cause r (Some stop.ThreadNotStarted) = Unit-prop
one_cause r (Some stop.JobBack) = Unit-prop

-- why a run that was stopped for this cause, if it was, has no answer
abbrev pub IsEndFault : Option Stop → Run → RunFault → Type 0
IsEndFault (Some s) r f = f ≡ fault_of s
IsEndFault None r fault.OutOfMemory = Unit {0}
IsEndFault None r fault.OtherState = HasEnded (plan r.program) (state_of r) → ⊥
IsEndFault None r fault.DeviceFull = ⊥
IsEndFault None r fault.Absent = ⊥
IsEndFault None r fault.Stranger = ⊥
IsEndFault None r fault.ThreadNotStarted = ⊥
IsEndFault None r fault.RangeRefused = ⊥
