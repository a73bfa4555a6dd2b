-- Runs by choices: what holds of each, and how far one has come.
use Rattle.std.specs.Prelude.{◌≡◌, ◌+◌, ◌*◌, ◌%◌, ◌<◌, ℕ, true, List, [], Option, Some, drop, length, slice_get}
use Rattle.base.specs.declared.tree.Program.{Program}
use Rattle.base.specs.declared.item.Event.{Event}
use Rattle.base.specs.declared.item.Event.TheVariants.{Open}
use Rattle.base.specs.declared.fault.RunFault.{RunFault}
use Rattle.base.specs.declared.fault.RunFault.TheVariants as fault
use Rattle.base.specs.Items.{Plan, plan}
use Rattle.base.specs.Map.{Fill}
use Rattle.base.specs.Machine.{State, RunFrom, HasEnded, Played, all_enabled, first_or_zero, follow}
use Rattle.device.specs.Run.{Run, fill_in, is_over, state_of}

-- a run that has not ended has had at most three events an item
abbrev pub FewEvents : Type 0
FewEvents = (plan : Plan) (fill : ℕ → Fill) (input : List ℕ) (events : List Event) (s : State) →
    RunFrom plan fill input events (Some s) → (HasEnded plan s → ⊥) → length events < 3 * length plan.items + 1

-- of a run that has ended no event may happen next
abbrev pub NothingAfterTheEnd : Type 0
NothingAfterTheEnd = (plan : Plan) (fill : ℕ → Fill) (input : List ℕ) (events : List Event) (s : State) →
    RunFrom plan fill input events (Some s) → HasEnded plan s → all_enabled plan s ≡ []

-- a program's run of which no event may happen next has ended
abbrev pub NothingOnlyAtTheEnd : Type 0
NothingOnlyAtTheEnd = (p : Program) (fill : ℕ → Fill) (input : List ℕ) (events : List Event) (s : State) →
    RunFrom (plan p) fill input events (Some s) → all_enabled (plan p) s ≡ [] → HasEnded (plan p) s

-- at most n events more of a run, by choices
abbrev pub gone_on : Run → ℕ → List ℕ → Played
gone_on r n choices = follow (plan r.program) (fill_in r) n choices r.history (Some (state_of r))

-- the event that the choices take next
abbrev pub next_by : Run → List ℕ → Option Event
next_by r choices = let next = all_enabled (plan r.program) (state_of r) in
    slice_get next (first_or_zero choices % length next)

-- an item has at most three events
abbrev pub most_events : Run → ℕ
most_events r = 3 * length (plan r.program).items + 1

-- the run has gone on by these choices, at most n events
pub record GoesOnBy (n : ℕ) (choices : List ℕ) (old new : Run) : Type 0 where
  pub program : new.program ≡ old.program
  pub input : new.input ≡ old.input
  pub capacity : new.capacity ≡ old.capacity
  pub fresh : new.fresh ≡ old.fresh
  pub by_choices : gone_on old n choices ≡ record { history = new.history; state = Some (state_of new) }

-- the run has gone on by these choices to its end
pub record IsPlayed (choices : List ℕ) (old new : Run) : Type 0 where
  pub goes : GoesOnBy (most_events old) choices old new
  pub ended : HasEnded (plan new.program) (state_of new)

-- the event that the choices take next is an opening that creates storage beyond the capacity
pub record IsFull (r : Run) (choices : List ℕ) : Type 0 where
  pub item : ℕ
  pub next : next_by r choices ≡ Some (Open item)
  pub over : is_over r item ≡ true

-- why the event that the choices take next is not done
abbrev pub IsNextFault : Run → List ℕ → RunFault → Type 0
IsNextFault r choices fault.OutOfMemory = Unit {0}
IsNextFault r choices fault.DeviceFull = IsFull r choices
IsNextFault r choices fault.Absent = ⊥
IsNextFault r choices fault.Stranger = ⊥
IsNextFault r choices fault.ThreadNotStarted = ⊥
IsNextFault r choices fault.OtherState = ⊥
IsNextFault r choices fault.RangeRefused = ⊥

-- the run has gone on by these choices up to an event that is not done
pub record IsStopped (choices : List ℕ) (old new : Run) (f : RunFault) : Type 0 where
  pub events : ℕ
  pub goes : GoesOnBy events choices old new
  pub fault : IsNextFault new (drop events choices) f
