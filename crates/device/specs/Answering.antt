-- What a whole run by choices answers.
use Rattle.std.specs.Prelude.{◌≡◌, ℕ, List, Some, Vec, map, slice_index}
use Rattle.std.specs.declared.alloc.Global.{Global}
use Rattle.base.specs.declared.fault.RunFault.{RunFault}
use Rattle.base.specs.declared.fault.RunFault.TheVariants as fault
use Rattle.base.specs.declared.item.Answer.{Answer}
use Rattle.base.specs.declared.tree.ArrayId.{ArrayId}
use Rattle.base.specs.declared.tree.Program.{Program}
use Rattle.base.specs.Answer.{array_values, finals_in, marked_values}
use Rattle.base.specs.Meaning.{Plain, erased, lengths_of, output_of}
use Rattle.device.specs.Choosing.{IsStopped}
use Rattle.device.specs.Run.{IsStart, Run, state_of}

-- the numbers of an array on the host
abbrev pub values_in : Run → ArrayId → List ℕ
values_in r a = array_values (state_of r).memories.host a.0 (slice_index (lengths_of r.program) a.0)

abbrev pub final_in : Run → ArrayId → ℕ × List ℕ
final_in r a = (a.0, values_in r a)

abbrev pub final_of : ArrayId × Vec ℕ Global → ℕ × List ℕ
final_of f = (f.0.0, f.1.items)

-- the answer has what the run printed, the numbers of these arrays, and the events
pub record IsAnswerOf (r : Run) (arrays : List ArrayId) (a : Answer) : Type 0 where
  pub out : a.out.items ≡ output_of (state_of r).output
  pub finals : finals_in a ≡ map (final_in r) arrays
  pub history : a.history.items ≡ r.history

-- the answer has the events of the run, the output of the erased program, and its values of the arrays marked current
pub record IsRunAnswer (r : Run) (a : Answer) : Type 0 where
  pub history : a.history.items ≡ r.history
  pub plain : Plain
  pub is_erased : erased r.program r.input ≡ Some plain
  pub output : a.out.items ≡ output_of plain.printed
  pub finals : finals_in a ≡ marked_values r.program plain.memory

-- the run by these choices comes to an opening that creates storage beyond the capacity
pub record IsTooLarge (p : Program) (input choices : List ℕ) (capacity : ℕ) : Type 0 where
  pub begun : Run
  pub is_start : IsStart p input capacity begun
  pub now : Run
  pub stopped : IsStopped choices begun now fault.DeviceFull

-- why there is no answer
abbrev pub IsAnswerFault : Program → List ℕ → List ℕ → ℕ → RunFault → Type 0
IsAnswerFault p input choices capacity fault.OutOfMemory = Unit {0}
IsAnswerFault p input choices capacity fault.DeviceFull = IsTooLarge p input choices capacity
IsAnswerFault p input choices capacity fault.Absent = ⊥
IsAnswerFault p input choices capacity fault.Stranger = ⊥
IsAnswerFault p input choices capacity fault.ThreadNotStarted = ⊥
IsAnswerFault p input choices capacity fault.OtherState = ⊥
IsAnswerFault p input choices capacity fault.RangeRefused = ⊥
