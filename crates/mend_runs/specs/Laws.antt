-- What is answered where a mend is run.
use Rattle.std.specs.Prelude.{ℕ, ◌≡◌, List}
use Rattle.base.specs.declared.tree.Program.{Program}
use Rattle.base.specs.declared.item.Answer.{Answer}
use Rattle.base.specs.Accepted.{IsAccepted}
use Rattle.base.specs.Items.{plan}
use Rattle.c_read.specs.Spells.{Spells}
use Rattle.erasure.specs.Erased.{erased_text}
use Rattle.mend.specs.Bare.{without_directives}
use Rattle.pipeline.specs.Fine.{IsFineSourceAnswer}
use Rattle.pipeline.specs.Source.{IsPlainAnswer, IsSourceAnswer, by_choices, on_threads}

-- an answer of a text that is the same without directives as the source, as its mend, is what the program of the source
-- without its directives prints: by choices
abbrev pub MendRunsByChoices : Type 0
MendRunsByChoices =
    (bytes text input choices : List ℕ) (capacity : ℕ) (a : Answer) (q : Program) →
    without_directives text ≡ without_directives bytes
    → (s : IsSourceAnswer (by_choices input choices capacity) text input a) → Spells (erased_text bytes) q
    → IsPlainAnswer s.program q input a

-- and on threads
abbrev pub MendRunsOnThreads : Type 0
MendRunsOnThreads =
    (bytes text input : List ℕ) (capacity : ℕ) (a : Answer) (q : Program) →
    without_directives text ≡ without_directives bytes
    → (s : IsSourceAnswer (on_threads input capacity) text input a) → Spells (erased_text bytes) q
    → IsPlainAnswer s.program q input a

-- and action by action
abbrev pub MendSteps : Type 0
MendSteps =
    (bytes text input choices turns : List ℕ) (capacity : ℕ) (a : Answer) (q : Program) →
    without_directives text ≡ without_directives bytes
    → (s : IsFineSourceAnswer text input choices turns capacity a) → IsAccepted (plan s.program)
    → Spells (erased_text bytes) q → IsPlainAnswer s.program q input a
