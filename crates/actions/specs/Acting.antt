-- What a single action does to the table and the host memory that the code keeps.
use Rattle.std.specs.Prelude.{ℕ, ◌≡◌, Bool, true, false, [], ◌∷◌, None, IsSomeAnd}
use Rattle.base.specs.declared.item.Cell.{Cell}
use Rattle.base.specs.declared.item.MapItem.{MapItem}
use Rattle.base.specs.declared.item.Section.{Section}
use Rattle.base.specs.declared.fault.RunFault.{RunFault}
use Rattle.base.specs.declared.fault.RunFault.TheVariants as fault
use Rattle.host_memory.specs.declared.memory.Memory.{Memory as Arrays}
use Rattle.host_memory.specs.Arrays.{lengths_of}
use Rattle.base.specs.Memory.{is_cell}
use Rattle.base.specs.Map.{Device}
use Rattle.fine_machine.specs.Action.{act}
use Rattle.fine_machine.specs.Left.{Answer, Request}
use Rattle.present.specs.Table.{Are, CountFits, HasNoRoom, HasRoom, Shows, fill_of, memories}
use Rattle.present.specs.declared.Table.{Table}
use Rattle.actions.specs.declared.action.Action.{Action}
use Rattle.actions.specs.declared.action.Action.TheVariants as action
use Rattle.actions.specs.declared.action.Given.{Given}
use Rattle.actions.specs.Strand.{request_of, side_of}

abbrev pub answer_of : Given → Answer
answer_of r = record { number = r.number; copies = r.copies; removes = r.removes }

-- a number was loaded, or 0 where nothing was; or an entry or an exit decided this
abbrev pub gives : ℕ → Given
gives n = record { number = n; copies = false; removes = false }

abbrev pub decides : Bool → Bool → Given
decides copies removes = record { number = 0; copies = copies; removes = removes }

-- a cell as a section
abbrev pub alone : Cell → Section
alone c = record { array = c.array; first = c.index; length = 1 }

-- something holds of the map item of an entry
abbrev pub OnEntry : Action → (MapItem → Type 0) → Type 0
OnEntry (action.Enter item) holds = holds item
OnEntry _ holds = Unit {0}

-- a request, on each device that the old table shows, gives this and leads to what the new one shows
abbrev pub IsDone : Request → Given → Table → Arrays → Table → Arrays → Type 0
IsDone request r old host new after =
    (d : Device) → Shows old d →
    IsSomeAnd (act (lengths_of host) (fill_of old) request (memories host d))
    (λ p. (p.0 ≡ answer_of r) × Are after new p.1)

-- a request fails on each device that the table shows
abbrev pub IsRefused : Request → Table → Arrays → Type 0
IsRefused request t host =
    (d : Device) → Shows t d → act (lengths_of host) (fill_of t) request (memories host d) ≡ None

-- the action, on each device that the old table shows, gives this and leads to what the new one shows
abbrev pub Acts : Bool → Action → Given → Table → Arrays → Table → Arrays → Type 0
Acts on_host a r old host new after = IsDone (request_of (side_of on_host) a) r old host new after

-- the action fails on each device that the table shows
abbrev pub ActFails : Bool → Action → Table → Arrays → Type 0
ActFails on_host a t host = IsRefused (request_of (side_of on_host) a) t host

-- there is no room for what an entry creates
abbrev pub IsOver : Action → Table → Type 0
IsOver (action.Enter item) t = HasNoRoom t (item ∷ [])
IsOver _ t = ⊥

abbrev pub FitsIn : Action → Table → Type 0
FitsIn a t = OnEntry a (λ item. HasRoom t (item ∷ []))

-- the block of an entry can be entered once more
abbrev pub CountsOn : Action → Table → Type 0
CountsOn a t = OnEntry a (λ item. CountFits t 1 item.section)

-- an action that may take memory
abbrev pub Creates : Action → Type 0
Creates (action.Enter item) = Unit {0}
Creates _ = ⊥

-- why an action is not done: for want of memory or of room, which an entry alone takes, or it fails
abbrev pub IsActFault : Bool → Action → Table → Arrays → RunFault → Type 0
IsActFault on_host a t host fault.OutOfMemory = Creates a
IsActFault on_host a t host fault.DeviceFull = IsOver a t
IsActFault on_host a t host fault.Absent = FitsIn a t × ActFails on_host a t host
IsActFault on_host a t host fault.Stranger = ⊥
IsActFault on_host a t host fault.ThreadNotStarted = ⊥
IsActFault on_host a t host fault.OtherState = ⊥
IsActFault on_host a t host fault.RangeRefused = ⊥

-- a cell that is copied to the host lies in its array there
abbrev pub InHost : Action → Arrays → Type 0
InHost (action.CopyOut c) host = is_cell (lengths_of host) c ≡ true
InHost _ host = Unit {0}
