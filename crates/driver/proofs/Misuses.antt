-- What has the status of a command that cannot be done as it was given.
use Rattle.std.proofs.Common.{◌≡◌}
use Rattle.base.specs.declared.fault.ReadFault.TheVariants as read
use Rattle.base.specs.declared.fault.OutlineFault.TheVariants as outline
use Rattle.base.specs.declared.fault.CheckFault.TheVariants as check
use Rattle.base.specs.declared.fault.SourceFault.{SourceFault}
use Rattle.base.specs.declared.fault.SourceFault.TheVariants.{Read, Outline, Check, Run}
use Rattle.driver.specs.Statuses.{ending_of, status_of, told_of}

-- a fault of a source has another one
pub not_misused : (f : SourceFault) → status_of (ending_of f) ≡ 2 → ⊥
not_misused (Read (read.Text f)) is = cc
not_misused (Read read.OutOfMemory) is = cc
not_misused (Outline outline.TooManyItems) is = cc
not_misused (Outline outline.OutOfMemory) is = cc
not_misused (Check check.OutOfMemory) is = cc
not_misused (Check (check.Range item f)) is = cc
not_misused (Check (check.Order f)) is = cc
not_misused (Check (check.Refused f)) is = cc
not_misused (Run f) is = cc

-- and so it has where it is told as a report
pub not_misused_told : (f : SourceFault) → status_of (told_of f) ≡ 2 → ⊥
not_misused_told (Read (read.Text f)) is = cc
not_misused_told (Read read.OutOfMemory) is = cc
not_misused_told (Outline outline.TooManyItems) is = cc
not_misused_told (Outline outline.OutOfMemory) is = cc
not_misused_told (Check check.OutOfMemory) is = cc
not_misused_told (Check (check.Range item f)) is = cc
not_misused_told (Check (check.Order f)) is = cc
not_misused_told (Check (check.Refused f)) is = cc
not_misused_told (Run f) is = cc
