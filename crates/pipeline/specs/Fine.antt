-- What is answered of a source that is run on the fine-grained machine: that of the program that its bytes spell.
use Rattle.std.specs.Prelude.{ℕ, ◌≤◌, List, length}
use Rattle.base.specs.declared.tree.Program.{Program}
use Rattle.base.specs.declared.item.Answer.{Answer}
use Rattle.base.specs.declared.fault.RunFault.{RunFault}
use Rattle.base.specs.declared.fault.SourceFault.{SourceFault}
use Rattle.base.specs.declared.fault.SourceFault.TheVariants.{Read, Outline, Check, Run}
use Rattle.base.specs.Accepted.{IsAccepted}
use Rattle.base.specs.Items.{plan}
use Rattle.base.specs.Limits.{most_items}
use Rattle.c_read.specs.Spells.{Spells}
use Rattle.erasure.specs.Erased.{erased_text}
use Rattle.pipeline.specs.Checking.{IsRefused}
use Rattle.pipeline.specs.Source.{IsPlainAnswer}
use Rattle.stepper.specs.Answering.{IsFineAnswer, IsFineFault}

-- the answer of the program that the bytes spell; where it is accepted, it is that of the program that they spell without
-- directive lines
pub record IsFineSourceAnswer (bytes input choices turns : List ℕ) (capacity : ℕ) (a : Answer) : Type 0 where
  pub program : Program
  pub spelled : Spells bytes program
  pub few : length (plan program).items ≤ most_items
  pub answer : IsFineAnswer program input choices turns capacity a
  pub without : IsAccepted (plan program) → (q : Program) → Spells (erased_text bytes) q → IsPlainAnswer program q input a

-- why the run of the program that the bytes spell has no answer
pub record IsFineRunStopped (bytes input choices turns : List ℕ) (capacity : ℕ) (f : RunFault) : Type 0 where
  pub program : Program
  pub spelled : Spells bytes program
  pub few : length (plan program).items ≤ most_items
  pub stopped : IsFineFault program input choices turns capacity f

-- why there is no answer; what the check would refuse is no reason
abbrev pub IsFineSourceFault : List ℕ → List ℕ → List ℕ → List ℕ → ℕ → SourceFault → Type 0
IsFineSourceFault bytes input choices turns capacity (Read f) = IsRefused bytes (Read f)
IsFineSourceFault bytes input choices turns capacity (Outline f) = IsRefused bytes (Outline f)
IsFineSourceFault bytes input choices turns capacity (Check f) = ⊥
IsFineSourceFault bytes input choices turns capacity (Run f) = IsFineRunStopped bytes input choices turns capacity f
