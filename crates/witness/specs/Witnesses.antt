-- Runs that print something else than the source without directives.
use Rattle.std.specs.Prelude.{⊤, ℕ, ◌≡◌, ◌≢◌, List, [], Option, None, IfSome, string_bytes}
use Rattle.base.specs.declared.tree.ArrayId.{ArrayId}
use Rattle.base.specs.declared.tree.Program.{Program}
use Rattle.base.specs.declared.item.Answer.{Answer}
use Rattle.base.specs.declared.fault.RunFault.TheVariants as run
use Rattle.base.specs.declared.fault.SourceFault.TheVariants.{Run}
use Rattle.base.specs.Accepted.{IsAccepted}
use Rattle.base.specs.Items.{plan}
use Rattle.actions.specs.declared.action.Action.{Action}
use Rattle.actions.specs.declared.action.Action.TheVariants.{Load, Store, Combine, Enter, Leave, Remove, CopyIn, CopyOut}
use Rattle.c_read.specs.Spells.{Spells}
use Rattle.erasure.specs.Erased.{erased_text}
use Rattle.mapcheck.specs.Passes.{IsCheckFault}
use Rattle.pipeline.specs.Fine.{IsFineSourceAnswer, IsFineSourceFault}
use Rattle.report.specs.Listing.{name_of}
use Rattle.stepper.specs.Answering.{AreShown}
use Rattle.stepper.specs.Stops.{IsStop}
use Rattle.witness.specs.declared.stopped.Stopped.{Stopped}
use Rattle.witness.specs.declared.trial.Ended.{Ended}
use Rattle.witness.specs.declared.trial.Ended.TheVariants.{Absent, Done}
use Rattle.witness.specs.declared.trial.Run.{Run as RunOutcome}
use Rattle.witness.specs.declared.trial.Run.TheVariants.{Ended as EndedSo, Full}
use Rattle.witness.specs.declared.trial.Trials.{Trials}
use Rattle.witness.specs.declared.trial.Witness.{Witness}
use Rattle.witness.specs.declared.search.Found.{Found}
use Rattle.witness.specs.declared.search.Judged.{Judged}
use Rattle.witness.specs.declared.search.Judged.TheVariants as judged

-- what the run of a source by these choices and this order of turns, action by action, ends with
abbrev pub IsEnd : List ℕ → List ℕ → List ℕ → List ℕ → ℕ → Ended → Type 0
IsEnd bytes input choices turns capacity (Done a) = IsFineSourceAnswer bytes input choices turns capacity a
IsEnd bytes input choices turns capacity Absent = IsFineSourceFault bytes input choices turns capacity (Run run.Absent)

-- it printed something else, or stopped
abbrev pub IsOther : List ℕ → Ended → Type 0
IsOther plain (Done a) = a.out.items ≢ plain
IsOther plain Absent = ⊤

abbrev pub IsRun : Trials → List ℕ → List ℕ → RunOutcome → Type 0
IsRun t choices turns (EndedSo e) = IsEnd t.source.now t.input.now choices turns t.capacity e
IsRun t choices turns Full = ⊤

pub record IsTrial (t : Trials) (w : Witness) : Type 0 where
  pub end : IsEnd t.source.now t.input.now w.choices.items w.turns.items t.capacity w.end
  pub differs : IsOther t.plain.now w.end

abbrev pub array_of : Action → ArrayId
array_of (Load c) = c.array
array_of (Store c n) = c.array
array_of (Combine op c n) = c.array
array_of (Enter item) = item.section.array
array_of (Leave item) = item.section.array
array_of (Remove section) = section.array
array_of (CopyIn c) = c.array
array_of (CopyOut c) = c.array

-- the run of a program by these choices and this order of turns fails at this action, on the array of this name
pub record IsStopped (p : Program) (input choices turns : List ℕ) (capacity : ℕ) (at : Stopped) : Type 0 where
  pub stop : IsStop p input choices turns capacity at.stop
  pub array : string_bytes at.array ≡ name_of p (array_of at.stop.action).0

-- none is told of a run that is done; of one that stopped, it is the action at which it failed, where it can be told
abbrev pub IsTold : Program → List ℕ → List ℕ → List ℕ → ℕ → Ended → Option Stopped → Type 0
IsTold p input choices turns capacity (Done a) told = told ≡ None
IsTold p input choices turns capacity Absent told = IfSome told (IsStopped p input choices turns capacity)

abbrev pub IsToldOf : Program → Trials → Witness → Type 0
IsToldOf p t w = IsTold p t.input.now w.choices.items w.turns.items t.capacity w.end w.stop

-- a run of the source by choices and an order of turns that prints something else than its text without directive lines, or
-- that stops, with the action at which it does, and what that text prints
pub record IsWitness (bytes input : List ℕ) (capacity : ℕ) (w : Witness) (plain : Answer) : Type 0 where
  pub end : IsEnd bytes input w.choices.items w.turns.items capacity w.end
  pub without : IsFineSourceAnswer (erased_text bytes) input [] [] capacity plain
  pub differs : IsOther plain.out.items w.end
  pub program : Program
  pub spelled : Spells bytes program
  pub told : IsTold program input w.choices.items w.turns.items capacity w.end w.stop

abbrev pub IsFound : List ℕ → List ℕ → ℕ → Found → Type 0
IsFound bytes input capacity f = IsWitness bytes input capacity f.witness f.plain

-- a program is accepted, or has a fault of range, or is refused otherwise, and then no array of it is shown
abbrev pub IsJudged : Program → Judged → Type 0
IsJudged p judged.Accepted = IsAccepted (plan p)
IsJudged p (judged.OutOfRange f) = IsCheckFault (plan p) f
IsJudged p (judged.Wrong meeting) = AreShown p []
