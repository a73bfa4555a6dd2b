-- What is found on the board, and done to it.
use Rattle.std.specs.Prelude.{◌≡◌, ◌⊎◌, ◌<◌, ◌≤◌, ◌++◌, ◌∷◌, [], ◌+◌, ℕ, List, length, true, false, Option, Some, None}
use Rattle.base.specs.declared.item.Event.{Event}
use Rattle.base.specs.declared.item.Event.TheVariants.{Open, Close}
use Rattle.base.specs.declared.tree.Region.{Region}
use Rattle.base.specs.Items.{plan}
use Rattle.base.specs.Machine.{HasEnded, enabled}
use Rattle.std.specs.List.{Contains}
use Rattle.kernel.specs.declared.frames.Frame.{Frame}
use Rattle.device.specs.declared.jobs.Job.{Job}
use Rattle.device.specs.Jobs.{IsIssuedDone, IsJob}
use Rattle.device.specs.Run.{HasOpened, Run, after, state_of}
use Rattle.device.specs.Running.{IsReached}
use Rattle.device.specs.Taking.{Takes}
use Rattle.taskgraph.specs.Board.{HasNoTask, IsNextTask}
use Rattle.host.specs.Idle.{AreWorkersIdle, IsHostIdle, is_for_workers}
use Rattle.host.specs.Sent.{open_count}
use Rattle.host.specs.Stops.{IsLack, IsOver}
use Rattle.host.specs.declared.board.Look.{Look}
use Rattle.host.specs.declared.board.Look.TheVariants as look
use Rattle.host.specs.declared.board.Stop.{Stop}
use Rattle.host.specs.declared.board.Stop.TheVariants as stop

-- what a look found or did, from a cause to stop, if there was one, and a state, to the same; it stops a run only for want of memory or of room
abbrev pub IsLook : Option Stop → Run → Look → Option Stop → Run → Type 0
IsLook before old look.Stop after new = IsOver after new × (new ≡ old) × ((after ≡ before) ⊎ IsLack after)
IsLook before old look.Wait after new = (before ≡ None) × (after ≡ None) × (new ≡ old)
IsLook before old look.Again after new = (before ≡ None) × (after ≡ None) × ((e : Event) × Takes old e new)
IsLook before old (look.Do job) after new =
    (before ≡ None) × (after ≡ None) × HasOpened job.frame.item old new × IsJob new job.frame.item job

-- this event is done, unless the run stops
abbrev pub IsEventOf : Event → Run → Look → Run → Type 0
IsEventOf e old look.Stop new = Unit {0}
IsEventOf e old look.Wait new = ⊥
IsEventOf e old look.Again new = Takes old e new
IsEventOf e old (look.Do job) new = e ≡ Open job.frame.item

-- the lowest deferred item that may be opened; where there is none, the item at which the host stands
abbrev pub IsForWorker : Run → ℕ → Type 0
IsForWorker r i =
    IsNextTask (plan r.program) (state_of r) 0 i
    ⊎ (HasNoTask (plan r.program) (state_of r) 0 × ((state_of r).place ≡ i))

-- Fewer than so many items for workers were open. The lowest that may be opened is opened, and its job is sent
pub record HasHanded (workers : ℕ) (old : Run) (sent : Option (List Job)) (new : Run) (after : Option (List Job)) : Type 0 where
  pub item : ℕ
  pub job : Job
  pub before : List Job
  pub room : open_count old < workers
  pub lowest : IsForWorker old item
  pub own : is_for_workers (plan old.program) (Open item) ≡ true
  pub opened : HasOpened item old new
  pub counted : open_count new ≡ open_count old + 1
  pub was_sent : sent ≡ Some before
  pub is_job : IsJob new item job
  pub is_sent : after ≡ Some (before ++ job ∷ [])

-- nothing is handed to a worker as yet: as many items are open as there are workers, or none may be opened
abbrev pub HasNoneToHand : ℕ → Run → Type 0
HasNoneToHand workers r = (workers ≤ open_count r) ⊎ AreWorkersIdle (plan r.program) (state_of r)

-- an item was opened whose job came back, and this is why the run stops
abbrev pub IsJobBack : Run → Option Stop → Run → Type 0
IsJobBack old after new = (after ≡ Some stop.JobBack) × ((i : ℕ) × HasOpened i old new)

-- What is handed to a worker, by a cause to stop, if there is one, a state and what was sent, before and after: an item is
-- opened and its job sent, or neither, unless the job comes back
abbrev pub IsHanding : ℕ → Option Stop → Run → Option (List Job) → Look → Option Stop → Run → Option (List Job) → Type 0
IsHanding workers before old sent look.Stop after new now =
    IsOver after new × (now ≡ None)
    × (((new ≡ old) × ((after ≡ before) ⊎ IsLack after)) ⊎ ((before ≡ None) × IsJobBack old after new))
IsHanding workers before old sent look.Wait after new now =
    (before ≡ None) × (after ≡ None) × (new ≡ old) × (now ≡ sent) × HasNoneToHand workers old
IsHanding workers before old sent look.Again after new now =
    (before ≡ None) × (after ≡ None) × HasHanded workers old sent new now
IsHanding workers before old sent (look.Do job) after new now = ⊥

-- why handing out stops a run, if it does: it was stopped before, for want of memory or of room, or since a job came back
abbrev pub IsHandStop : Option Stop → Option Stop → Type 0
IsHandStop before after = (after ≡ before) ⊎ ((before ≡ None) × (IsLack after ⊎ (after ≡ Some stop.JobBack)))

-- so many jobs were sent, if there is a sending end still
abbrev pub HaveSent : Option (List Job) → ℕ → Option (List Job) → Type 0
HaveSent None n now = Unit {0}
HaveSent (Some sent) n None = Unit {0}
HaveSent (Some sent) n (Some now) = length now ≡ length sent + n

-- there is no more to hand to a worker: the run is over, or there is none as yet
abbrev pub HasNoMoreToHand : ℕ → Option Stop → Run → Type 0
HasNoMoreToHand workers o r = IsOver o r ⊎ HasNoneToHand workers r

-- the host does an event that is not for workers, and waits only where nothing may happen next but what is for them
abbrev pub IsHostLook : Run → Look → Run → Type 0
IsHostLook old look.Stop new = Unit {0}
IsHostLook old look.Wait new = IsHostIdle (plan old.program) (state_of old)
IsHostLook old look.Again new = (e : Event) × ((is_for_workers (plan old.program) e ≡ false) × Takes old e new)
IsHostLook old (look.Do job) new = is_for_workers (plan old.program) (Open job.frame.item) ≡ false

-- the host is wanted: the run is over, or something may happen next that is not for workers
abbrev pub WantsTheHost : Option Stop → Run → Type 0
WantsTheHost o r = IsOver o r ⊎ (IsHostIdle (plan r.program) (state_of r) → ⊥)

-- why what was computed does not close its item
abbrev pub IsCloseCause : Run → Region → Frame → Stop → Type 0
IsCloseCause r region frame stop.OutOfMemory = IsIssuedDone r region frame
IsCloseCause r region frame (stop.DeviceFull item) = ⊥
IsCloseCause r region frame stop.Stranger = IsIssuedDone r region frame → ⊥
IsCloseCause r region frame stop.ThreadNotStarted = ⊥
IsCloseCause r region frame stop.JobBack = ⊥

-- the item of a frame is closed, unless the run was stopped or is stopped now
abbrev pub IsClosing : Option Stop → Run → Region → Frame → Option Stop → Run → Type 0
IsClosing (Some s) old region frame o new = (o ≡ Some s) × (new ≡ old)
IsClosing None old region frame None new = new ≡ after old (Close frame.item)
IsClosing None old region frame (Some s) new = (new ≡ old) × IsCloseCause old region frame s

-- one of these jobs has this region and this frame
abbrev pub HasJob : List Job → Region → Frame → Type 0
HasJob jobs region frame = (j : Job) × Contains jobs j × (j.code.now ≡ region) × (j.frame ≡ frame)

-- in a run that has not ended, where the host and the workers find nothing to do, an item is open, which is then closed
abbrev pub WaitsAreForAClosing : Type 0
WaitsAreForAClosing = (r : Run) → IsReached r → (HasEnded (plan r.program) (state_of r) → ⊥) →
    IsHostIdle (plan r.program) (state_of r) → AreWorkersIdle (plan r.program) (state_of r) →
    (i : ℕ) × (enabled (plan r.program) (state_of r) (Close i) ≡ true)
