-- What is answered of a source that is run: that of the program that its bytes spell.
use Rattle.std.specs.Prelude.{ℕ, ◌≡◌, ◌≤◌, nat_lt, List, ◌++◌, Some, filter, length}
use Rattle.base.specs.declared.tree.Program.{Program}
use Rattle.base.specs.declared.item.Answer.{Answer}
use Rattle.base.specs.declared.fault.RunFault.{RunFault}
use Rattle.base.specs.declared.fault.SourceFault.{SourceFault}
use Rattle.base.specs.declared.fault.SourceFault.TheVariants.{Read, Outline, Check, Run}
use Rattle.base.specs.Accepted.{IsAccepted}
use Rattle.base.specs.Answer.{IsAnswer, finals_in, marked_values}
use Rattle.base.specs.Items.{plan}
use Rattle.base.specs.Limits.{most_items}
use Rattle.base.specs.Meaning.{Plain, erased, lengths_of, output_of}
use Rattle.c_read.specs.Spells.{Spells}
use Rattle.device.specs.Answering.{IsAnswerFault}
use Rattle.device.specs.Room.{IsAnswerWithin}
use Rattle.erased_meaning.specs.Laws.{IsOneRegion}
use Rattle.erasure.specs.Erased.{erased_text}
use Rattle.host.specs.Threads.{IsThreadAnswer, IsThreadFault}
use Rattle.mapcheck.specs.Passes.{IsCheckFault}
use Rattle.pipeline.specs.Checking.{IsRefused}

-- what is answered of programs, and why they have no answer: by choices, or on threads; and no event of an answer leaves
-- more cells of a device in use than there is room for
abbrev pub Answers : Type 1
Answers = Program → Answer → Type 0

abbrev pub Faults : Type 1
Faults = Program → RunFault → Type 0

abbrev pub by_choices : List ℕ → List ℕ → ℕ → Answers
by_choices input choices capacity p a = IsAnswer p input choices a × IsAnswerWithin p input capacity a

abbrev pub stopped_by_choices : List ℕ → List ℕ → ℕ → Faults
stopped_by_choices input choices capacity p f = IsAnswerFault p input choices capacity f

abbrev pub on_threads : List ℕ → ℕ → Answers
on_threads input capacity p a = IsThreadAnswer p input a × IsAnswerWithin p input capacity a

abbrev pub stopped_on_threads : List ℕ → ℕ → Faults
stopped_on_threads input capacity p f = IsThreadFault p input capacity f

-- the program is accepted, and this is what it answers
pub record IsAcceptedAnswer (is : Answers) (p : Program) (a : Answer) : Type 0 where
  pub accepted : IsAccepted (plan p)
  pub answer : is p a

-- the program is accepted, and this is why it has no answer
pub record IsRunStopped (is : Faults) (p : Program) (f : RunFault) : Type 0 where
  pub accepted : IsAccepted (plan p)
  pub fault : is p f

-- why a program that is outlined has no answer
abbrev pub IsProgramFault : Faults → Program → SourceFault → Type 0
IsProgramFault is p (Check f) = IsCheckFault (plan p) f
IsProgramFault is p (Run f) = IsRunStopped is p f
IsProgramFault is p (Read f) = ⊥
IsProgramFault is p (Outline f) = ⊥

-- of arrays with their values, those of the first n
abbrev pub first_arrays : ℕ → List (ℕ × List ℕ) → List (ℕ × List ℕ)
first_arrays n fs = filter (λ f. nat_lt f.0 n) fs

-- q has no directive; it prints this on the host alone, and leaves these numbers in those of its arrays that p has marked
-- current. p may have further arrays, of its boxed scalars
pub record IsPlainAnswer (p q : Program) (input : List ℕ) (a : Answer) : Type 0 where
  pub no_directive : IsOneRegion q.body.items
  pub boxes : List ℕ
  pub lengths : lengths_of p ≡ lengths_of q ++ boxes
  pub plain : Plain
  pub is_erased : erased q input ≡ Some plain
  pub output : a.out.items ≡ output_of plain.printed
  pub finals :
      first_arrays (length (lengths_of q)) (finals_in a)
      ≡ first_arrays (length (lengths_of q)) (marked_values p plain.memory)

-- the answer of the program that the bytes spell, which is that of the program that they spell without directive lines
pub record IsSourceAnswer (is : Answers) (bytes input : List ℕ) (a : Answer) : Type 0 where
  pub program : Program
  pub spelled : Spells bytes program
  pub few : length (plan program).items ≤ most_items
  pub answer : IsAcceptedAnswer is program a
  pub without : (q : Program) → Spells (erased_text bytes) q → IsPlainAnswer program q input a

-- why the run of the program that the bytes spell has no answer
pub record IsStoppedRun (is : Faults) (bytes : List ℕ) (f : RunFault) : Type 0 where
  pub program : Program
  pub spelled : Spells bytes program
  pub few : length (plan program).items ≤ most_items
  pub stopped : IsRunStopped is program f

abbrev pub IsSourceFault : Faults → List ℕ → SourceFault → Type 0
IsSourceFault is bytes (Read f) = IsRefused bytes (Read f)
IsSourceFault is bytes (Outline f) = IsRefused bytes (Outline f)
IsSourceFault is bytes (Check f) = IsRefused bytes (Check f)
IsSourceFault is bytes (Run f) = IsStoppedRun is bytes f
