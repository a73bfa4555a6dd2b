-- What is answered where a source is run on the fine-grained machine.
use Rattle.std.proofs.Common.{ℕ, ◌≤◌, List, length}
use Rattle.base.specs.declared.tree.Program.{Program}
use Rattle.base.specs.declared.item.Answer.{Answer}
use Rattle.base.specs.declared.fault.RunFault.{RunFault}
use Rattle.base.specs.declared.fault.RunFault.TheVariants as fault
use Rattle.base.specs.Items.{plan}
use Rattle.base.specs.Limits.{most_items}
use Rattle.c_read.specs.Spells.{Spells}
use Rattle.erased_meaning.specs.Laws.{ErasedTextRuns}
use Rattle.stepper.specs.Answering.{IsErasedAnswer, IsFineAnswer, IsFineFault, IsShownFault}
use Rattle.pipeline.specs.Fine.{IsFineRunStopped, IsFineSourceAnswer}
use Rattle.pipeline.proofs.Runs.{Shows, plain_answer}

shows : (p : Program) (input : List ℕ) (a : Answer) → IsErasedAnswer p input a → Shows p input a
shows p input a h = record { plain = h.plain; is_erased = h.is_erased; output = h.output; finals = h.finals }

pub fine_answer : ErasedTextRuns → (bytes input choices turns : List ℕ) (capacity : ℕ) (p : Program) → Spells bytes p →
    length (plan p).items ≤ most_items → (a : Answer) → IsFineAnswer p input choices turns capacity a →
    IsFineSourceAnswer bytes input choices turns capacity a
fine_answer law bytes input choices turns capacity p s few a h = record {
  program = p;
  spelled = s;
  few = few;
  answer = h;
  without = λ accepted r spelled. plain_answer p r input a (shows p input a (h.accepted accepted)) (law bytes p r s spelled);
}

-- where it is not known which arrays are shown, no run is begun
pub shown_fault : (bytes input choices turns : List ℕ) (capacity : ℕ) (p : Program) → Spells bytes p →
    length (plan p).items ≤ most_items → (f : RunFault) → IsShownFault p f → IsFineRunStopped bytes input choices turns capacity f
shown_fault bytes input choices turns capacity p s few f h = record {
  program = p;
  spelled = s;
  few = few;
  stopped = unrun f h;
}
  where
    unrun : (f : RunFault) → IsShownFault p f → IsFineFault p input choices turns capacity f
    unrun fault.OutOfMemory h = tt
    unrun fault.RangeRefused h = h
    unrun fault.DeviceFull h = absurd h
    unrun fault.Absent h = absurd h
    unrun fault.Stranger h = absurd h
    unrun fault.ThreadNotStarted h = absurd h
    unrun fault.OtherState h = absurd h
