-- What an event does to a run.
use Rattle.std.specs.Prelude.{◌≡◌, ◌++◌, ◌∷◌, [], false, Some}
use Rattle.base.specs.declared.item.Event.{Event}
use Rattle.base.specs.declared.item.Event.TheVariants.{Gen, Open, Step, Close, Wait, End}
use Rattle.base.specs.declared.fault.RunFault.{RunFault}
use Rattle.base.specs.declared.fault.RunFault.TheVariants as fault
use Rattle.base.specs.Items.{plan}
use Rattle.base.specs.Machine.{step}
use Rattle.device.specs.Run.{HasOpened, IsOpenFault, Run, after, fill_in, is_over, state_of}

-- one event more, which is a step of the machine
pub record Takes (old : Run) (e : Event) (new : Run) : Type 0 where
  pub program : new.program ≡ old.program
  pub input : new.input ≡ old.input
  pub capacity : new.capacity ≡ old.capacity
  pub fresh : new.fresh ≡ old.fresh
  pub history : new.history ≡ old.history ++ e ∷ []
  pub stepped : step (plan old.program) (fill_in old) (state_of old) e ≡ Some (state_of new)

-- what it does to what is issued: only an opening issues a frame
abbrev pub HasDone : Event → Run → Run → Type 0
HasDone (Open i) old new = HasOpened i old new
HasDone (Gen i) old new = new ≡ after old (Gen i)
HasDone (Step i) old new = new ≡ after old (Step i)
HasDone (Close i) old new = new ≡ after old (Close i)
HasDone (Wait i) old new = new ≡ after old (Wait i)
HasDone End old new = new ≡ after old End

-- an opening creates no more than there is room for
abbrev pub FitsIn : Run → Event → Type 0
FitsIn r (Open i) = is_over r i ≡ false
FitsIn r (Gen i) = Unit {0}
FitsIn r (Step i) = Unit {0}
FitsIn r (Close i) = Unit {0}
FitsIn r (Wait i) = Unit {0}
FitsIn r End = Unit {0}

-- why an event is not done
abbrev pub IsEventFault : Run → Event → RunFault → Type 0
IsEventFault r (Open i) f = IsOpenFault r i f
IsEventFault r (Gen i) f = f ≡ fault.OutOfMemory
IsEventFault r (Step i) f = ⊥
IsEventFault r (Close i) f = f ≡ fault.OutOfMemory
IsEventFault r (Wait i) f = f ≡ fault.OutOfMemory
IsEventFault r End f = f ≡ fault.OutOfMemory
