-- What a command that is done has printed on standard output.
use Rattle.std.specs.Prelude.{ℕ, ◌≡◌, Bool, true, false, if◌then◌else◌, List, [], ◌++◌, Option, Some, IfSome}
use Rattle.std.specs.Io.KnownBytes.{Appends}
use Rattle.base.specs.declared.tree.Program.{Program}
use Rattle.base.specs.declared.item.Answer.{Answer}
use Rattle.base.specs.Accepted.{IsAccepted}
use Rattle.base.specs.Items.{plan}
use Rattle.c_read.specs.Spells.{Spells}
use Rattle.c_lines.specs.Spliced.{spliced}
use Rattle.erasure.specs.Erased.{erased_text}
use Rattle.pipeline.specs.Source.{Answers, IsAcceptedAnswer, IsPlainAnswer, by_choices, on_threads}
use Rattle.pipeline.specs.Checking.{IsChecked}
use Rattle.pipeline.specs.Listing.{IsListed}
use Rattle.explain.specs.Explained.{SpellsAccepted}
use Rattle.report.specs.Runs.{log_bytes, finals_bytes}
use Rattle.maps.specs.Maps.{run_maps_bytes}
use Rattle.numbers.specs.Numbers.{input_of, choices_of, runs_of}
use Rattle.command.specs.CommandLine.{AskedBy}
use Rattle.command.specs.declared.request.Request.{Request}
use Rattle.command.specs.declared.request.Request.TheVariants.{Run, Step, Check, Explain, Fix, Witness, View, List as Items}
use Rattle.driver.specs.declared.running.Next.{Next}
use Rattle.driver.specs.declared.running.Next.TheVariants.{Choices, Workers}
use Rattle.driver.specs.declared.running.Way.{Way}
use Rattle.driver.specs.declared.running.Way.TheVariants.{Checked, Fine}
use Rattle.stepper.specs.Answering.{IsFineAnswer}
use Rattle.mend.specs.Mends.{IsMend}
use Rattle.witness.specs.declared.trial.Witness.{Witness as FoundWitness}
use Rattle.witness.specs.Witnesses.{IsWitness}
use Rattle.witness.specs.Texts.{witness_bytes}

-- the numbers that a reader has left, where its bytes are known
pub record IsInput (known : Option (List ℕ)) (input : List ℕ) : Type 0 where
  pub bytes : List ℕ
  pub left : IfSome known (λ xs. bytes ≡ xs)
  pub numbers : input_of bytes ≡ Some input

-- what is answered on an input by choices, on devices each with room for so many cells
abbrev pub by_list : List ℕ → ℕ → List ℕ → Answers
by_list choices capacity input = by_choices input choices capacity

-- the same by worker threads
abbrev pub by_workers : ℕ → List ℕ → Answers
by_workers capacity input = on_threads input capacity

-- the same by either of them
abbrev pub next_of : Next → ℕ → List ℕ → Answers
next_of (Choices choices) capacity = by_list choices.now capacity
next_of (Workers workers) capacity = by_workers capacity

-- the same, of an accepted program only
abbrev pub accepted_by : (List ℕ → Answers) → List ℕ → Answers
accepted_by is input = IsAcceptedAnswer (is input)

-- what is answered on an input by choices on the fine-grained machine, by an order of turns, of a program that need not be accepted
abbrev pub by_actions : List ℕ → List ℕ → ℕ → List ℕ → Answers
by_actions choices turns capacity input p a = IsFineAnswer p input choices turns capacity a

abbrev pub answers_of : Way → ℕ → List ℕ → Answers
answers_of (Checked next) capacity = accepted_by (next_of next capacity)
answers_of (Fine choices turns) capacity = by_actions choices.now turns.now capacity

-- what a program answers on the numbers that a reader has left
pub record IsReadAnswer (is : List ℕ → Answers) (known : Option (List ℕ)) (p : Program) (a : Answer) : Type 0 where
  pub input : List ℕ
  pub is_input : IsInput known input
  pub answer : is input p a

-- the output, then the log, what the directives did on the tables of the devices, and the values of arrays, where they
-- are asked for
abbrev pub answer_bytes : Bool → Bool → Bool → Program → Answer → List ℕ
answer_bytes log maps finals p a =
    a.out.items ++ ((if log then log_bytes a.history.items else [])
    ++ ((if maps then run_maps_bytes p a.history.items else []) ++ (if finals then finals_bytes p a.finals.items else [])))

-- that is appended, of the program that the bytes spell; where it is accepted, that is the answer of the program that they
-- spell without directive lines
pub record IsPrinted (is : List ℕ → Answers) (log maps finals : Bool) (bytes : List ℕ) (known old new : Option (List ℕ)) : Type 0 where
  pub program : Program
  pub spelled : Spells bytes program
  pub answer : Answer
  pub answered : IsReadAnswer is known program answer
  pub without : IsAccepted (plan program) → (q : Program) → Spells (erased_text bytes) q → IsPlainAnswer program q answered.input answer
  pub written : Appends old new (answer_bytes log maps finals program answer)

-- what is answered on an input by choices, on the machine that is asked for
abbrev pub stepped : Bool → List ℕ → List ℕ → ℕ → List ℕ → Answers
stepped true choices turns capacity = by_actions choices turns capacity
stepped false choices turns capacity = accepted_by (by_list choices capacity)

-- the choices of a text, and behind them those of a text in which they stand in runs
pub record AreChoices (text runs choices : List ℕ) : Type 0 where
  pub first : List ℕ
  pub are_first : choices_of text ≡ Some first
  pub others : List ℕ
  pub are_others : runs_of runs ≡ Some others
  pub both : choices ≡ first ++ others

-- a run by the choices of two texts, with its log; the last text is the order of turns
pub record IsStepped (fine maps : Bool) (text runs order : List ℕ) (capacity : ℕ) (bytes : List ℕ) (known old new : Option (List ℕ)) : Type 0 where
  pub choices : List ℕ
  pub are_choices : AreChoices text runs choices
  pub turns : List ℕ
  pub are_turns : choices_of order ≡ Some turns
  pub printed : IsPrinted (stepped fine choices turns capacity) true maps false bytes known old new

-- a text that, with its lines joined, spells an accepted program, and differs from the bytes in directives alone
pub record IsFixed (bytes : List ℕ) (old new : Option (List ℕ)) : Type 0 where
  pub text : List ℕ
  pub mend : IsMend bytes (spliced text)
  pub written : Appends old new text

-- choices by which the program that the bytes spell, run action by action, prints something else than the program that
-- they spell without directive lines, or stops; and both outputs
pub record IsWitnessed (name bytes : List ℕ) (known old new : Option (List ℕ)) : Type 0 where
  pub input : List ℕ
  pub is_input : IsInput known input
  pub found : FoundWitness
  pub plain : Answer
  pub is : IsWitness bytes input 4194304 found plain
  pub written : Appends old new (witness_bytes name found plain)

-- what a request prints of the bytes of a source
abbrev pub IsDone : Request → List ℕ → Option (List ℕ) → Option (List ℕ) → Option (List ℕ) → Type 0
IsDone (Run run) bytes known old new = IsPrinted (accepted_by (by_workers run.capacity)) run.log run.maps run.finals bytes known old new
IsDone (Step step) bytes known old new = IsStepped step.fine step.maps step.choices.now step.choice_runs.now step.turns.now step.capacity bytes known old new
IsDone (Check name) bytes known old new = IsChecked bytes old new
IsDone (Items name) bytes known old new = IsListed bytes old new
IsDone (Explain explain) bytes known old new = SpellsAccepted bytes
IsDone (Fix name) bytes known old new = IsFixed bytes old new
IsDone (Witness name) bytes known old new = IsWitnessed name.now bytes known old new
IsDone (View name) bytes known old new = SpellsAccepted bytes

-- a request that writes to standard output why a program is refused
abbrev pub is_report : Request → Bool
is_report (Run run) = false
is_report (Step step) = false
is_report (Check name) = false
is_report (Items name) = false
is_report (Explain explain) = true
is_report (Fix name) = false
is_report (Witness name) = false
is_report (View name) = true

-- the bytes of each source, by its name, where they are known
abbrev pub KnownSources : Type 0
KnownSources = List ℕ → Option (List ℕ)

-- the name of the source that a request is about
abbrev pub file_of : Request → List ℕ
file_of (Run run) = run.file.now
file_of (Step step) = step.file.now
file_of (Check name) = name.now
file_of (Items name) = name.now
file_of (Explain explain) = explain.file.now
file_of (Fix name) = name.now
file_of (Witness name) = name.now
file_of (View name) = name.now

-- that is so of the bytes of a source, with its lines joined that begin with # and go on behind a backslash; where those of
-- the source are known, it is these
pub record OfSource (source : Option (List ℕ)) (P : List ℕ → Type 0) : Type 0 where
  pub bytes : List ℕ
  pub are : IfSome source (λ xs. bytes ≡ spliced xs)
  pub holds : P bytes

-- that is so where the request that the words ask for is no report
pub record IsUnlessReport (words : List (List ℕ)) (P : Type 0) : Type 0 where
  pub request : Request
  pub asked : AskedBy words request
  pub holds : is_report request ≡ false → P

-- that is so of the request that the words ask for, and of the source that it names
pub record IsCommandDone (words : List (List ℕ)) (sources : KnownSources) (known old new : Option (List ℕ)) : Type 0 where
  pub request : Request
  pub asked : AskedBy words request
  pub done : OfSource (sources (file_of request)) (λ bytes. IsDone request bytes known old new)
