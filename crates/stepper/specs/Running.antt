-- What holds of a run of the fine-grained machine, and why an event of it is not done.
use Rattle.std.specs.Prelude.{ℕ, ◌≡◌, ◌+◌, ◌<◌, ◌≤◌, ◌^◌, ◌++◌, ◌∷◌, [], false, true, length, List, map, slice_index, Some, None}
use Rattle.base.specs.declared.fault.RunFault.{RunFault}
use Rattle.base.specs.declared.fault.RunFault.TheVariants as fault
use Rattle.base.specs.declared.item.Event.{Event}
use Rattle.base.specs.declared.item.Event.TheVariants.{Step}
use Rattle.base.specs.declared.item.Answer.{Answer}
use Rattle.base.specs.declared.tree.ArrayId.{ArrayId}
use Rattle.base.specs.declared.tree.Program.{Program}
use Rattle.base.specs.Answer.{array_values, finals_in}
use Rattle.base.specs.Meaning.{output_of}
use Rattle.base.specs.Headline.{AreNumbers}
use Rattle.base.specs.Items.{plan}
use Rattle.device.specs.Devices.{HaveRoom, fresh_of}
use Rattle.fine_machine.specs.Machine.{RunFrom, step}
use Rattle.mapwalk.specs.Walk.{HasNoRangeFault}
use Rattle.stepper.specs.declared.fine_run.FineRun.TheInside.{Inside}
use Rattle.stepper.specs.declared.standing.Standing.{Standing}
use Rattle.stepper.specs.Answering.{IsWithin}
use Rattle.stepper.specs.Run.{IsGoing, Run, Takes, fill_in, order_in, fine_of, state_of}
use Rattle.stepper.specs.Standing.{IsAt, is_over}
use Rattle.stepper.specs.Taking.{has_room}

-- the code's values show the state after the events, which are a run of the machine
pub record IsThere (r : Run) (now : Standing) : Type 0 where
  pub at : IsAt (plan r.program) now (state_of r)
  pub ran : RunFrom (plan r.program) (fill_in r) (order_in r) r.input r.history (Some (state_of r))
  pub sound : (fine_of r).failed ≡ false
  pub room : HaveRoom now.devices r.capacity
  pub below : (state_of r).place ≤ length (plan r.program).items + 1

pub record IsRunning (r : Run) (now : Standing) : Type 0 where
  pub fine : HasNoRangeFault (plan r.program)
  pub numbers : AreNumbers r.input
  pub fresh : r.fresh < 2 ^ 64
  pub going : IsGoing r → IsThere r now

-- what holds of a run that no fault has stopped: the events so far are a run of the machine, which has not failed, and
-- each device has room for what is in use
pub record HasCome (r : Run) : Type 0 where
  pub fresh : r.fresh < 2 ^ 64
  pub numbers : AreNumbers r.input
  pub short : length r.history < 2 ^ 64
  pub ran : RunFrom (plan r.program) (fill_in r) (order_in r) r.input r.history (Some (state_of r))
  pub sound : (fine_of r).failed ≡ false
  pub within : IsWithin r.capacity (Some (state_of r))

abbrev pub run_of : Inside → Run
run_of s = record {
  program = s.outlined.now;
  input = s.whole.now;
  order = s.standing.order.now;
  capacity = s.capacity;
  fresh = fresh_of s.standing.devices;
  history = s.history.items;
  stopped = s.stopped;
}

abbrev pub Shows : Inside → Type 0
Shows s = IsRunning (run_of s) s.standing

-- a run that has done nothing
pub record IsNew (p : Program) (given turns : List ℕ) (room : ℕ) (r : Run) : Type 0 where
  pub program : r.program ≡ p
  pub input : r.input ≡ given
  pub order : r.order ≡ turns
  pub capacity : r.capacity ≡ room
  pub fresh : r.fresh < 2 ^ 64
  pub history : r.history ≡ []
  pub going : IsGoing r

-- an event was done, and each device has room for what is in use
pub record HasDone (old : Run) (e : Event) (new : Run) : Type 0 where
  pub takes : Takes old e new
  pub history : new.history ≡ old.history ++ e ∷ []
  pub going : IsGoing new
  pub stepped : step (plan old.program) (fill_in old) (order_in old) (state_of old) e ≡ Some (state_of new)
  pub within : IsWithin old.capacity (Some (state_of new))

-- an event stopped the run
pub record HasStopped (old : Run) (e : Event) (new : Run) : Type 0 where
  pub takes : Takes old e new
  pub history : new.history ≡ old.history
  pub stopped : new.stopped ≡ Some e

-- the event is an action for which there is no room
pub record IsOverAt (r : Run) (e : Event) : Type 0 where
  pub item : ℕ
  pub is : e ≡ Step item
  pub over : is_over r.capacity (plan r.program) (state_of r) item ≡ true

-- an array's number with its numbers on the host
abbrev pub row_at : Run → ArrayId → ℕ × List ℕ
row_at r a = (a.0, array_values (state_of r).memories.host a.0 (slice_index (plan r.program).lengths a.0))

-- the answer has the output of the state, the numbers of these arrays there, and the events
pub record IsAnswerAt (r : Run) (arrays : List ArrayId) (a : Answer) : Type 0 where
  pub out : a.out.items ≡ output_of (state_of r).output
  pub finals : finals_in a ≡ map (row_at r) arrays
  pub history : a.history.items ≡ r.history

-- why an event is not done
abbrev pub IsEventFault : Run → Event → RunFault → Type 0
IsEventFault r e fault.OutOfMemory = Unit {0}
IsEventFault r e fault.DeviceFull = IsOverAt r e
IsEventFault r e fault.Absent =
    has_room r.capacity (plan r.program) (state_of r) e × (step (plan r.program) (fill_in r) (order_in r) (state_of r) e ≡ None)
IsEventFault r e fault.Stranger = ⊥
IsEventFault r e fault.ThreadNotStarted = ⊥
IsEventFault r e fault.OtherState = ⊥
IsEventFault r e fault.RangeRefused = ⊥
