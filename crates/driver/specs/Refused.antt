-- Why a command has the status of a refused program.
use Rattle.std.specs.Prelude.{⊤, ℕ, ◌≡◌, ◌<◌, ◌≤◌, Bool, true, false, not, List, Option, length}
use Rattle.base.specs.declared.tree.Program.{Program}
use Rattle.base.specs.declared.fault.OutlineFault.TheVariants as outline
use Rattle.base.specs.declared.fault.SourceFault.{SourceFault}
use Rattle.base.specs.declared.fault.SourceFault.TheVariants.{Outline, Check}
use Rattle.base.specs.Items.{plan}
use Rattle.base.specs.Limits.{most_items}
use Rattle.mapcheck.specs.Passes.{IsCheckFault}
use Rattle.pipeline.specs.Checking.{IsRefused}
use Rattle.command.specs.CommandLine.{AskedBy}
use Rattle.command.specs.declared.request.Request.{Request}
use Rattle.command.specs.declared.request.Request.TheVariants as request
use Rattle.driver.specs.declared.ending.Ending.{Ending}
use Rattle.driver.specs.declared.ending.Ending.TheVariants as ending
use Rattle.driver.specs.declared.running.Way.{Way}
use Rattle.driver.specs.declared.running.Way.TheVariants.{Checked, Fine}
use Rattle.driver.specs.Statuses.{source_status}
use Rattle.driver.specs.Printed.{KnownSources, OfSource, file_of}

-- a program is run only where it is accepted
abbrev pub is_checked : Way → Bool
is_checked (Checked next) = true
is_checked (Fine choices turns) = false

-- a request refuses a program that is not accepted
abbrev pub checks : Request → Bool
checks (request.Run run) = true
checks (request.Step step) = not step.fine
checks (request.Check name) = true
checks (request.List name) = true
checks (request.Explain explain) = true
checks (request.Fix name) = true
checks (request.Witness name) = true
checks (request.View name) = true

-- a fault that is looked for: what the check finds only where programs have to be accepted
abbrev pub IsSought : Bool → SourceFault → Type 0
IsSought true f = ⊤
IsSought false (Check f) = ⊥
IsSought false _ = ⊤

-- a fault of a program, of its items first
abbrev pub IsPlanFault : Bool → Program → SourceFault → Type 0
IsPlanFault checked p (Outline outline.TooManyItems) = most_items < length (plan p).items
IsPlanFault checked p (Check f) = (checked ≡ true) × (length (plan p).items ≤ most_items) × IsCheckFault (plan p) f
IsPlanFault checked p _ = ⊥

-- a fault that is looked for, of the bytes of a source, which are these where they are known
abbrev pub IsRefusedOf : Bool → Option (List ℕ) → SourceFault → Type 0
IsRefusedOf checked source f = IsSought checked f × OfSource source (λ bytes. IsRefused bytes f)

-- a program is refused by a fault of this kind
pub record IsRefusal (P : SourceFault → Type 0) : Type 0 where
  pub fault : SourceFault
  pub refuses : source_status fault ≡ 1
  pub is : P fault

-- where a command ends in that, it is by such a fault
abbrev pub IsRefusalBy : (SourceFault → Type 0) → Ending → Type 0
IsRefusalBy P (ending.Source f) = source_status f ≡ 1 → P f
IsRefusalBy P ending.Refused = IsRefusal P
IsRefusalBy P _ = ⊤

-- a command does not end in that
abbrev pub IsNoRefusal : Ending → Type 0
IsNoRefusal = IsRefusalBy (λ f. ⊥)

-- the bytes of a source spell no program, or one that is refused: one with too many items or, where programs have to be
-- accepted, one that is not
abbrev pub IsRefusedSource : Bool → Option (List ℕ) → Type 0
IsRefusedSource checked source = IsRefusal (IsRefusedOf checked source)

-- so do those of the source that the request of the words names
pub record IsCommandRefused (words : List (List ℕ)) (sources : KnownSources) : Type 0 where
  pub request : Request
  pub asked : AskedBy words request
  pub refused : IsRefusedSource (checks request) (sources (file_of request))
