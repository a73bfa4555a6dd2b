-- What is answered where a source is checked.
use Rattle.std.specs.Prelude.{◌≡◌, ℕ, ◌<◌, ◌≤◌, List, Option, Result, Ok, Err, length}
use Rattle.std.specs.Io.KnownBytes.{Appends}
use Rattle.base.specs.declared.tree.ArrayId.{ArrayId}
use Rattle.base.specs.declared.tree.Program.{Program}
use Rattle.base.specs.declared.fault.TextFault.{TextFault}
use Rattle.base.specs.declared.fault.CheckFault.{CheckFault}
use Rattle.base.specs.declared.fault.OutlineFault.{OutlineFault}
use Rattle.base.specs.declared.fault.OutlineFault.TheVariants as outline
use Rattle.base.specs.declared.fault.SourceFault.{SourceFault}
use Rattle.base.specs.declared.fault.SourceFault.TheVariants.{Read, Outline, Check, Run}
use Rattle.base.specs.Accepted.{IsAccepted}
use Rattle.base.specs.Items.{plan}
use Rattle.base.specs.Limits.{most_items}
use Rattle.c_source.specs.Source.{IsFirstFault}
use Rattle.c_read.specs.Spells.{Spells, OnText}
use Rattle.mapcheck.specs.Passes.{IsCheckFault}
use Rattle.mapcheck.specs.Third.{AreMarked}
use Rattle.report.specs.Checked.{accepted_bytes}

-- a program is accepted, and what is appended says so and names the arrays marked current
pub record IsTold (program : Program) (old new : Option (List ℕ)) : Type 0 where
  pub accepted : IsAccepted (plan program)
  pub arrays : List ArrayId
  pub marked : AreMarked (plan program) arrays
  pub written : Appends old new (accepted_bytes program arrays)

-- that is said of the program that the bytes spell
pub record IsChecked (bytes : List ℕ) (old new : Option (List ℕ)) : Type 0 where
  pub program : Program
  pub spelled : Spells bytes program
  pub told : IsTold program old new

-- the first fault of the text, which spells no program
pub record IsTextFault (bytes : List ℕ) (f : TextFault) : Type 0 where
  pub first : IsFirstFault bytes f
  pub none : (p : Program) → Spells bytes p → ⊥

-- a program that the bytes spell has too many items
pub record HasTooMany (bytes : List ℕ) : Type 0 where
  pub program : Program
  pub spelled : Spells bytes program
  pub many : most_items < length (plan program).items

-- the first fault of a program
abbrev pub IsUnaccepted : Program → SourceFault → Type 0
IsUnaccepted p (Check f) = IsCheckFault (plan p) f
IsUnaccepted p (Read f) = ⊥
IsUnaccepted p (Outline f) = ⊥
IsUnaccepted p (Run f) = ⊥

-- the first fault of a program that the bytes spell, which has no more items than the limit
pub record IsRefusedProgram (bytes : List ℕ) (f : CheckFault) : Type 0 where
  pub program : Program
  pub spelled : Spells bytes program
  pub few : length (plan program).items ≤ most_items
  pub fault : IsCheckFault (plan program) f

abbrev pub IsOutlineFault : List ℕ → OutlineFault → Type 0
IsOutlineFault bytes outline.TooManyItems = HasTooMany bytes
IsOutlineFault bytes outline.OutOfMemory = Unit {0}

abbrev pub IsRefused : List ℕ → SourceFault → Type 0
IsRefused bytes (Read f) = OnText (IsTextFault bytes) f
IsRefused bytes (Outline f) = IsOutlineFault bytes f
IsRefused bytes (Check f) = IsRefusedProgram bytes f
IsRefused bytes (Run f) = ⊥

-- why the bytes are read as no program
abbrev pub IsUnread : List ℕ → SourceFault → Type 0
IsUnread bytes (Read f) = OnText (IsTextFault bytes) f
IsUnread bytes (Outline f) = ⊥
IsUnread bytes (Check f) = ⊥
IsUnread bytes (Run f) = ⊥

-- why a program's items are not listed
abbrev pub IsUnlisted : Program → SourceFault → Type 0
IsUnlisted p (Outline outline.TooManyItems) = most_items < length (plan p).items
IsUnlisted p (Outline outline.OutOfMemory) = length (plan p).items ≤ most_items
IsUnlisted p (Read f) = ⊥
IsUnlisted p (Check f) = ⊥
IsUnlisted p (Run f) = ⊥

-- nothing is written, unless the check refuses a program, which is told in a line
abbrev pub IsSilent : {X : Type 0} → Result X SourceFault → Option (List ℕ) → Option (List ℕ) → Type 0
IsSilent (Ok x) old new = new ≡ old
IsSilent (Err (Read f)) old new = new ≡ old
IsSilent (Err (Outline f)) old new = new ≡ old
IsSilent (Err (Check f)) old new = Unit {0}
IsSilent (Err (Run f)) old new = new ≡ old
