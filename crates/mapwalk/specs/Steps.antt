-- What comes of an item: on the host and its device, and then on all devices.
use Rattle.std.specs.Prelude.{ℕ, ◌≡◌, ◌<◌, ◌^◌, ◌==◌, length, Bool, false, if◌then◌else◌, List, [], Option, Some, None, slice_get}
use Rattle.base.specs.declared.item.Cell.{Cell}
use Rattle.base.specs.declared.fault.RefusalCode.{RefusalCode}
use Rattle.base.specs.Memory.{changed}
use Rattle.base.specs.Map.{Block}
use Rattle.base.specs.Items.{Work}
use Rattle.base.specs.Actions.{Stage, acts_of}
use Rattle.base.specs.Current.{AllCurrent, Current, after_actions, after_stage}
use Rattle.base.specs.Accepted.{cause}
use Rattle.mapwalk.specs.declared.marks.Marks.{Marks}
use Rattle.mapwalk.specs.declared.rows.Acts.{Acts}
use Rattle.mapwalk.specs.declared.steps.Step.{Step}
use Rattle.mapwalk.specs.declared.steps.Step.TheVariants.{Done, Refused}
use Rattle.mapwalk.specs.declared.steps.DeviceState.{DeviceState}
use Rattle.mapwalk.specs.Current.{AreInside, marks_in, row_lengths, with_cut}
use Rattle.mapwalk.specs.Table.{blocks_of}
use Rattle.mapwalk.specs.Acts.{acts_row}
use Rattle.mapwalk.specs.Causes.{IsFirstOf}

-- an item, with the blocks of its device before it
abbrev pub stage_of : Work → List Block → Stage
stage_of w blocks = let a = acts_of w blocks in record { work = w; actions = a.actions; met = a.met }

-- The host and a device.

-- the same on every device
abbrev pub everywhere : Current → AllCurrent
everywhere k = record { host = k.host; devices = λ d. k.device }

-- the item has no cause, and was done
pub record HasDoneHere (w : Work) (blocks after : List Block) (k next : Current) (row : List Acts) : Type 0 where
  pub clean : (code : RefusalCode) (c : Cell) → cause code (stage_of w blocks) (everywhere k) c ≡ false
  pub acts : row ≡ acts_row w blocks
  pub blocks_after : after ≡ (acts_of w blocks).blocks
  pub current : next ≡ after_actions (acts_of w blocks).actions k

abbrev pub IsDoneHere : Work → List Block → List Block → Current → Current → Step → Type 0
IsDoneHere w blocks after k next (Done row) = HasDoneHere w blocks after k next row.items
IsDoneHere w blocks after k next (Refused x) =
    IsFirstOf (λ code. cause code (stage_of w blocks) (everywhere k)) (Some x)

-- All devices.

abbrev pub table_in : Option DeviceState → List Block
table_in None = []
table_in (Some x) = blocks_of x.blocks

abbrev pub marks_on : Option DeviceState → Cell → Bool
marks_on None c = false
marks_on (Some x) c = marks_in x.current.items c

abbrev pub entries_in : Option DeviceState → ℕ
entries_in None = 0
entries_in (Some x) = x.blocks.entries

-- the blocks of each device
abbrev pub tables_of : List DeviceState → ℕ → List Block
tables_of devices d = table_in (slice_get devices d)

-- how many entries each device has seen
abbrev pub entries_of : List DeviceState → ℕ → ℕ
entries_of devices d = entries_in (slice_get devices d)

-- the cells that are current on each device
abbrev pub marks_of : List DeviceState → ℕ → Cell → Bool
marks_of devices d = marks_on (slice_get devices d)

abbrev pub current_of : List Marks → List DeviceState → AllCurrent
current_of host devices = record { host = marks_in host; devices = marks_of devices }

-- each device has marks for the cells of these arrays
abbrev pub AreAlike : List ℕ → List DeviceState → Type 0
AreAlike lengths devices =
    (d : ℕ) (x : DeviceState) → slice_get devices d ≡ Some x → row_lengths x.current.items ≡ lengths

-- the cells can be marked where there are these arrays
pub record IsMarkable (cells : Cell → Bool) (lengths : List ℕ) : Type 0 where
  pub few : length lengths < 2 ^ 32
  pub inside : AreInside lengths cells

-- on each device
abbrev pub AreMarkable : (Cell → Bool) → List DeviceState → Type 0
AreMarkable cells devices =
    (d : ℕ) (x : DeviceState) → slice_get devices d ≡ Some x → IsMarkable cells (row_lengths x.current.items)

-- these cells are not current on each device but one
abbrev pub spoiled : ℕ → (Cell → Bool) → (ℕ → Cell → Bool) → ℕ → Cell → Bool
spoiled own cells side e = if e == own then side e else with_cut cells (side e)

-- the item has no cause, and was done
pub record HasDone (w : Work) (tables after : ℕ → List Block) (k next : AllCurrent) (row : List Acts) : Type 0 where
  pub clean : (code : RefusalCode) (c : Cell) → cause code (stage_of w (tables w.device)) k c ≡ false
  pub acts : row ≡ acts_row w (tables w.device)
  pub tables_after : after ≡ changed w.device (acts_of w (tables w.device)).blocks tables
  pub current : next ≡ after_stage (stage_of w (tables w.device)) k

abbrev pub IsDone : Work → (ℕ → List Block) → (ℕ → List Block) → AllCurrent → AllCurrent → Step → Type 0
IsDone w tables after k next (Done row) = HasDone w tables after k next row.items
IsDone w tables after k next (Refused x) = IsFirstOf (λ code. cause code (stage_of w (tables w.device)) k) (Some x)
