-- Regions that are issued with their frames, and what was run that is taken back.
use Rattle.std.specs.Prelude.{◌≡◌, ℕ, true, List, [], Option, Some, None, slice_get}
use Rattle.base.specs.declared.tree.Region.{Region}
use Rattle.base.specs.declared.tree.Stmt.{Stmt}
use Rattle.base.specs.declared.item.Event.TheVariants as event
use Rattle.base.specs.declared.fault.RunFault.{RunFault}
use Rattle.base.specs.declared.fault.RunFault.TheVariants as fault
use Rattle.base.specs.Items.{Work, plan}
use Rattle.base.specs.Machine.{enabled}
use Rattle.kernel.specs.Kept.{IsKept, Kept}
use Rattle.kernel.specs.declared.frames.Frame.{Frame}
use Rattle.device.specs.declared.jobs.Job.{Job}
use Rattle.device.specs.Run.{Run, state_of}
use Rattle.device.specs.Same.{same_list}
use Rattle.device.specs.Standing.{Issue, done_on, frame_parts}

-- the statements of an item's region, none where it has none
abbrev pub statements_of : Option Region → List Stmt
statements_of None = []
statements_of (Some r) = r.body.items

-- the item of the frame is open, this frame was issued for it, and the region has the statements of the item's region
pub record IsIssuedDone (r : Run) (region : Region) (frame : Frame) : Type 0 where
  pub is_open : enabled (plan r.program) (state_of r) (event.Close frame.item) ≡ true
  pub is_held : slice_get r.issued frame.item ≡ Some (Some (frame_parts frame))
  pub has_statements : (w : Work) → slice_get (plan r.program).items frame.item ≡ Some w →
      same_list (statements_of w.region) region.body.items ≡ true

-- for each item that is open a frame was issued
abbrev pub AreIssued : Run → Type 0
AreIssued r = (i : ℕ) → enabled (plan r.program) (state_of r) (event.Close i) ≡ true →
    (p : Issue) × (slice_get r.issued i ≡ Some (Some p))

-- what was issued for an item: a run of this region on this frame is taken back
pub record IsJob (r : Run) (i : ℕ) (job : Job) : Type 0 where
  pub item : job.frame.item ≡ i
  pub issued : IsIssuedDone r job.code.now job.frame

-- why what was run is not taken back: for want of memory where it is what was issued, or because it is not
abbrev pub IsCloseFault : Run → Region → Frame → RunFault → Type 0
IsCloseFault r region frame fault.OutOfMemory = IsIssuedDone r region frame
IsCloseFault r region frame fault.Stranger = IsIssuedDone r region frame → ⊥
IsCloseFault r region frame fault.Absent = ⊥
IsCloseFault r region frame fault.DeviceFull = ⊥
IsCloseFault r region frame fault.ThreadNotStarted = ⊥
IsCloseFault r region frame fault.OtherState = ⊥
IsCloseFault r region frame fault.RangeRefused = ⊥

-- what a region left that was run on what was issued for an item
pub record IsLeft (r : Run) (i : ℕ) (k : Kept) : Type 0 where
  pub region : Region
  pub frame : Frame
  pub of_item : frame.item ≡ i
  pub issued : IsIssuedDone r region frame
  pub kept : IsKept (done_on region frame) k
