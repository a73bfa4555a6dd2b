-- Sources whose directives are changed so that they are accepted.
use Rattle.std.specs.Prelude.{⊤, ℕ, ◌≡◌, ◌<◌, ◌≤◌, List, length}
use Rattle.base.specs.declared.tree.Program.{Program}
use Rattle.base.specs.declared.fault.OutlineFault.TheVariants as outline
use Rattle.base.specs.declared.fault.SourceFault.{SourceFault}
use Rattle.base.specs.declared.fault.SourceFault.TheVariants.{Read, Outline, Check, Run}
use Rattle.base.specs.Accepted.{IsAccepted}
use Rattle.base.specs.Items.{plan}
use Rattle.base.specs.Limits.{most_items}
use Rattle.c_source.specs.Source.{IsFirstFault}
use Rattle.c_read.specs.Spells.{Spells, OnText}
use Rattle.mend.specs.Bare.{without_directives}
use Rattle.mend.specs.declared.judge.Verdict.{Verdict}
use Rattle.mend.specs.declared.judge.Verdict.TheVariants as verdict
use Rattle.mend.specs.declared.search.Outcome.{Outcome}
use Rattle.mend.specs.declared.search.Outcome.TheVariants as outcome

-- the text spells a program that is accepted
pub record IsAcceptedText (text : List ℕ) : Type 0 where
  pub program : Program
  pub spelled : Spells text program
  pub few : length (plan program).items ≤ most_items
  pub accepted : IsAccepted (plan program)

-- it does, and it has this text without directives
pub record IsAcceptedOf (bare text : List ℕ) : Type 0 where
  pub accepted : IsAcceptedText text
  pub same : without_directives text ≡ bare

-- the text spells a program that is accepted, and differs from the bytes in directives alone
abbrev pub IsMend : List ℕ → List ℕ → Type 0
IsMend bytes text = IsAcceptedOf (without_directives bytes) text

-- a program that the bytes spell has too many items
pub record HasTooMany (bytes : List ℕ) : Type 0 where
  pub program : Program
  pub spelled : Spells bytes program
  pub many : most_items < length (plan program).items

-- why no mend of the bytes is looked for: the first fault of the text, or too many items
abbrev pub IsUnfit : List ℕ → SourceFault → Type 0
IsUnfit bytes (Read f) = OnText (λ t. IsFirstFault bytes t × ((p : Program) → Spells bytes p → ⊥)) f
IsUnfit bytes (Outline outline.TooManyItems) = HasTooMany bytes
IsUnfit bytes (Outline outline.OutOfMemory) = ⊤
IsUnfit bytes (Check f) = ⊥
IsUnfit bytes (Run f) = ⊥

-- ---- the parts of the search

abbrev pub IsPlanVerdict : Program → Verdict → Type 0
IsPlanVerdict p verdict.Accepted = IsAccepted (plan p)
IsPlanVerdict p _ = ⊤

abbrev pub IsVerdictOn : List ℕ → Verdict → Type 0
IsVerdictOn text verdict.Accepted = IsAcceptedText text
IsVerdictOn text _ = ⊤

abbrev pub IsVerdict : List ℕ → List ℕ → Verdict → Type 0
IsVerdict bare text verdict.Accepted = IsAcceptedOf bare text
IsVerdict bare text _ = ⊤

abbrev pub IsOutcome : List ℕ → Outcome → Type 0
IsOutcome bare (outcome.Accepted text) = IsAcceptedOf bare text.items
IsOutcome bare _ = ⊤
