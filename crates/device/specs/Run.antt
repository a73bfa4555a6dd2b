-- A run as contracts see it.
use Rattle.std.specs.Prelude.{◌≡◌, ℕ, ◌+◌, ◌&&◌, Bool, true, false, nat_lt, ◌++◌, ◌∷◌, [], List, Option, Some, None, length, refl, replicate, unwrap_or}
use Rattle.std.specs.List.{slice_set}
use Rattle.std.specs.Coded.{Coded, code_by, coded×, coded_ℕ, coded_list, coded_option}
use Rattle.base.specs.contracts.tree.Program as program_code
use Rattle.base.specs.contracts.item.Event as event_code
use Rattle.base.specs.declared.tree.Program.{Program}
use Rattle.base.specs.declared.item.Event.{Event}
use Rattle.base.specs.declared.item.Event.TheVariants.{Gen, Open, Step, Close, Wait, End}
use Rattle.base.specs.Items.{Work, plan}
use Rattle.base.specs.Map.{Block, Fill, in_use, need}
use Rattle.base.specs.Machine.{State, on_item, start}
use Rattle.base.specs.declared.fault.RunFault.{RunFault}
use Rattle.base.specs.declared.fault.RunFault.TheVariants as fault
use Rattle.device.specs.Moves.{enters}
use Rattle.device.specs.Reached.{reached}
use Rattle.device.specs.Standing.{Issue}

-- the program and its whole input, how many cells each device has room for, what each cell of created storage holds, the
-- events so far, and for each item the frame that its opening issued, as long as it is open
pub record Run : Type 0 where
  pub program : Program
  pub input : List ℕ
  pub capacity : ℕ
  pub fresh : ℕ
  pub history : List Event
  pub issued : List (Option Issue)

abbrev pub fill_in : Run → ℕ → Fill
fill_in r i = λ c. r.fresh

-- the state of the machine after the events so far
unfoldable pub state_of : Run → State
state_of r = unwrap_or (reached (plan r.program) (fill_in r) r.input r.history) (start r.input)

-- an item that is generated or closed has no frame
abbrev pub issued_after : Event → List (Option Issue) → List (Option Issue)
issued_after (Gen i) frames = slice_set frames i None
issued_after (Open i) frames = frames
issued_after (Step i) frames = frames
issued_after (Close i) frames = slice_set frames i None
issued_after (Wait i) frames = frames
issued_after End frames = frames

-- one more event, which issues no frame
abbrev pub after : Run → Event → Run
after r e = record r { history = r.history ++ e ∷ []; issued = issued_after e r.issued }

-- an item was opened, and this frame was issued
abbrev pub opened : Run → ℕ → Issue → Run
opened r i f = record r { history = r.history ++ Open i ∷ []; issued = slice_set r.issued i (Some f) }

abbrev pub issue_code : Coded Issue
issue_code =
    code_by (ℕ × (List ℕ × (List ℕ × (List (ℕ × List ℕ) × List ℕ))))
    (coded× coded_ℕ (coded× (coded_list coded_ℕ) (coded× (coded_list coded_ℕ)
    (coded× (coded_list (coded× coded_ℕ (coded_list coded_ℕ))) (coded_list coded_ℕ)))))
    (λ i. (i.item, (i.loops, (i.scalars, (i.rows, i.input)))))
    (λ p. record { item = p.0; loops = p.1.0; scalars = p.1.1.0; rows = p.1.1.1.0; input = p.1.1.1.1 }) (λ _. refl)

abbrev pub run_code : Coded Run
run_code =
    code_by (Program × (List ℕ × (ℕ × (ℕ × (List Event × List (Option Issue))))))
    (coded× program_code.the_row.coded (coded× (coded_list coded_ℕ) (coded× coded_ℕ (coded× coded_ℕ
    (coded× (coded_list event_code.the_row.coded) (coded_list (coded_option issue_code)))))))
    (λ r. (r.program, (r.input, (r.capacity, (r.fresh, (r.history, r.issued))))))
    (λ p. record {
      program = p.0;
      input = p.1.0;
      capacity = p.1.1.0;
      fresh = p.1.1.1.0;
      history = p.1.1.1.1.0;
      issued = p.1.1.1.1.1;
    })
    (λ _. refl)

-- a run that has done nothing
pub record IsStart (p : Program) (given : List ℕ) (room : ℕ) (r : Run) : Type 0 where
  pub program : r.program ≡ p
  pub input : r.input ≡ given
  pub capacity : r.capacity ≡ room
  pub history : r.history ≡ []
  pub issued : r.issued ≡ replicate (length (plan p).items) None

-- an item was opened, and some frame was issued for it
pub record HasOpened (i : ℕ) (old new : Run) : Type 0 where
  pub frame : Issue
  pub is : new ≡ opened old i frame

-- the blocks of the device of an item
abbrev pub own_blocks : Run → Work → List Block
own_blocks r w = ((state_of r).memories.devices w.device).blocks

-- the item creates storage beyond the capacity of its device when it is opened
abbrev pub is_over : Run → ℕ → Bool
is_over r i = on_item (plan r.program) i false (λ w. enters w.kind &&
    nat_lt r.capacity (in_use (own_blocks r w) + need w.maps (own_blocks r w)))

-- why an item is not opened: for want of memory, or of room on its device
abbrev pub IsOpenFault : Run → ℕ → RunFault → Type 0
IsOpenFault r i fault.OutOfMemory = Unit {0}
IsOpenFault r i fault.DeviceFull = is_over r i ≡ true
IsOpenFault r i fault.Absent = ⊥
IsOpenFault r i fault.Stranger = ⊥
IsOpenFault r i fault.ThreadNotStarted = ⊥
IsOpenFault r i fault.OtherState = ⊥
IsOpenFault r i fault.RangeRefused = ⊥
