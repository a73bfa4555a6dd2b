-- What a run on threads answers.
use Rattle.std.specs.Prelude.{◌≡◌, ℕ, true, List, Some}
use Rattle.base.specs.declared.fault.RunFault.{RunFault}
use Rattle.base.specs.declared.fault.RunFault.TheVariants as fault
use Rattle.base.specs.declared.item.Answer.{Answer}
use Rattle.base.specs.declared.item.Event.TheVariants.{Open}
use Rattle.base.specs.declared.tree.Program.{Program}
use Rattle.base.specs.Answer.{finals_in, marked_values}
use Rattle.base.specs.Headline.{IsFill}
use Rattle.base.specs.Items.{plan}
use Rattle.base.specs.Machine.{State, HasEnded, RunFrom, enabled}
use Rattle.base.specs.Map.{Fill}
use Rattle.base.specs.Meaning.{Plain, erased, output_of}
use Rattle.device.specs.Run.{Run, is_over, state_of}
use Rattle.device.specs.Running.{IsReached}

-- the answer is right: its history is a run of the two-memory machine from the start to the end; its output is that of
-- the erased program; and its finals are the erased program's values of the arrays marked current
pub record IsThreadAnswer (p : Program) (input : List ℕ) (a : Answer) : Type 0 where
  pub fill : ℕ → Fill
  pub is_fill : IsFill fill
  pub end : State
  pub ran : RunFrom (plan p) fill input a.history.items (Some end)
  pub ended : HasEnded (plan p) end
  pub plain : Plain
  pub is_erased : erased p input ≡ Some plain
  pub output : a.out.items ≡ output_of plain.printed
  pub finals : finals_in a ≡ marked_values p plain.memory

-- in this state an item may be opened, which creates storage beyond the capacity
abbrev pub IsFullAt : Run → ℕ → Type 0
IsFullAt r item = (enabled (plan r.program) (state_of r) (Open item) ≡ true) × (is_over r item ≡ true)

-- some run comes to such a state
pub record ComesToFull (p : Program) (input : List ℕ) (capacity : ℕ) : Type 0 where
  pub run : Run
  pub reached : IsReached run
  pub program : run.program ≡ p
  pub input_kept : run.input ≡ input
  pub capacity_kept : run.capacity ≡ capacity
  pub item : ℕ
  pub full : IsFullAt run item

-- why there is no answer
abbrev pub IsThreadFault : Program → List ℕ → ℕ → RunFault → Type 0
IsThreadFault p input capacity fault.OutOfMemory = Unit {0}
IsThreadFault p input capacity fault.DeviceFull = ComesToFull p input capacity
IsThreadFault p input capacity fault.Absent = ⊥
IsThreadFault p input capacity fault.Stranger = Unit {0}
IsThreadFault p input capacity fault.ThreadNotStarted = Unit {0}
IsThreadFault p input capacity fault.OtherState = Unit {0}
IsThreadFault p input capacity fault.RangeRefused = ⊥
