-- A run that is stopped.
use Rattle.std.proofs.Common.{◌≡◌, ◌∙◌, ℕ, true, Option, Some, None, refl, sym, subst}
use Rattle.base.specs.declared.fault.RunFault.{RunFault}
use Rattle.base.specs.declared.fault.RunFault.TheVariants as fault
use Rattle.base.specs.declared.item.Event.TheVariants.{Open}
use Rattle.base.specs.Items.{plan}
use Rattle.base.specs.Machine.{enabled}
use Rattle.device.specs.Run.{IsOpenFault, Run, state_of}
use Rattle.device.specs.Running.{IsReached}
use Rattle.base.specs.declared.tree.Program.{Program}
use Rattle.host.specs.Origins.{Start, IsFrom, IsOf}
use Rattle.host.specs.Stops.{HasCause, IsCause, IsLack, IsPlain, StaysStopped, fault_of, lack_at}
use Rattle.host.specs.Threads.{IsThreadFault}
use Rattle.host.specs.declared.board.Stop.{Stop}
use Rattle.host.specs.declared.board.Stop.TheVariants as stop

-- an event that was not done leaves the run that was started
pub still_from : (o : Option Start) (old new : Run) → new ≡ old → IsFrom o old → IsFrom o new
still_from o old new same from = subst (λ (r : Run). IsFrom o r) (sym same) from

pub still_of : (p : Program) (old new : Run) → new ≡ old → IsOf p old → IsOf p new
still_of p old new same of = subst (λ (r : Run). IsOf p r) (sym same) of

-- one more event leaves the run that was started
pub next_from : (o : Option Start) (old new : Run) → new.program ≡ old.program → new.input ≡ old.input →
    new.capacity ≡ old.capacity → IsFrom o old → IsFrom o new
next_from o old new p i k from =
    from ∙ (λ j. Some (record { program = sym p j; input = sym i j; capacity = sym k j }))

-- a run that goes on has no cause to stop
pub no_cause : (r : Run) (o : Option Stop) → o ≡ None → HasCause r o
no_cause r o none = subst (λ (x : Option Stop). HasCause r x) (sym none) tt

-- the cause is one of the fault that is answered
cause_of_fault : (r : Run) (s : Stop) → IsReached r → IsCause r s → IsThreadFault r.program r.input r.capacity (fault_of s)
cause_of_fault r stop.OutOfMemory reached cause = tt
cause_of_fault r (stop.DeviceFull item) reached cause = record {
  run = r;
  reached = reached;
  program = refl;
  input_kept = refl;
  capacity_kept = refl;
  item = item;
  full = cause;
}
cause_of_fault r stop.Stranger reached cause = tt
cause_of_fault r stop.ThreadNotStarted reached cause = tt
cause_of_fault r stop.JobBack reached cause = tt

-- a run that is stopped has the cause of its fault
pub stopped : (r : Run) (o : Option Stop) (s : Stop) (f : RunFault) → IsReached r → HasCause r o → o ≡ Some s →
    f ≡ fault_of s → IsThreadFault r.program r.input r.capacity f
stopped r o s f reached cause is answered =
    subst (λ (x : RunFault). IsThreadFault r.program r.input r.capacity x) (sym answered)
    (cause_of_fault r s reached (subst (λ (x : Option Stop). HasCause r x) is cause))

-- a cause for which any thread may stop the run is one in any state
pub plain_cause : (r : Run) (s : Stop) → IsPlain s → IsCause r s
plain_cause r stop.OutOfMemory h = tt
plain_cause r (stop.DeviceFull item) h = absurd h
plain_cause r stop.Stranger h = absurd h
plain_cause r stop.ThreadNotStarted h = tt
plain_cause r stop.JobBack h = absurd h

-- where an item is not opened, the state has the cause in it, which is want of memory or of room
pub open_cause : (r : Run) (i : ℕ) (f : RunFault) → enabled (plan r.program) (state_of r) (Open i) ≡ true →
    IsOpenFault r i f → IsCause r (lack_at i f)
open_cause r i fault.DeviceFull may h = (may, h)
open_cause r i fault.OutOfMemory may h = tt
open_cause r i fault.Absent may h = absurd h
open_cause r i fault.Stranger may h = absurd h
open_cause r i fault.ThreadNotStarted may h = absurd h
open_cause r i fault.OtherState may h = absurd h
open_cause r i fault.RangeRefused may h = absurd h

pub is_lack : (i : ℕ) (f : RunFault) → IsLack (Some (lack_at i f))
is_lack i fault.DeviceFull = tt
is_lack i fault.OutOfMemory = tt
is_lack i fault.Absent = tt
is_lack i fault.Stranger = tt
is_lack i fault.ThreadNotStarted = tt
is_lack i fault.OtherState = tt
is_lack i fault.RangeRefused = tt

-- what stays stopped from one look to the next stays so over both
pub stays : (o : Option Stop) (r : Run) → StaysStopped o r o r
stays None r = tt
stays (Some s) r = (refl, refl)

pub stays_on : (o p q : Option Stop) (r s t : Run) → StaysStopped o r p s → StaysStopped p s q t → StaysStopped o r q t
stays_on None p q r s t h k = tt
stays_on (Some x) p q r s t h k =
    let l : StaysStopped (Some x) s q t = subst (λ (y : Option Stop). StaysStopped y s q t) h.0 k in (l.0, l.1 ∙ h.1)
