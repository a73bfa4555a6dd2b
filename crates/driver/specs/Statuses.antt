-- The status of a command that prints nothing, and what it says.
use Rattle.std.specs.Prelude.{ℕ, List, [], codes}
use Rattle.base.specs.declared.fault.ReadFault.TheVariants as read
use Rattle.base.specs.declared.fault.OutlineFault.TheVariants as outline
use Rattle.base.specs.declared.fault.CheckFault.TheVariants as check
use Rattle.base.specs.declared.fault.SourceFault.{SourceFault}
use Rattle.base.specs.declared.fault.SourceFault.TheVariants.{Read, Outline, Check, Run}
use Rattle.clap.specs.declared.error.kind.ErrorKind.{ErrorKind}
use Rattle.clap.specs.declared.error.kind.ErrorKind.TheVariants as kind
use Rattle.report.specs.declared.faults.Misuse.TheVariants as misuse
use Rattle.base.specs.declared.fault.RunFault.TheVariants as run
use Rattle.report.specs.Faults.{fault_line, misuse_line, run_line}
use Rattle.driver.specs.declared.ending.Ending.{Ending}
use Rattle.driver.specs.declared.ending.Ending.TheVariants as ending

-- a refused program has 1, want of memory and a run that stopped have 3
abbrev pub source_status : SourceFault → ℕ
source_status (Read (read.Text f)) = 1
source_status (Read read.OutOfMemory) = 3
source_status (Outline outline.TooManyItems) = 1
source_status (Outline outline.OutOfMemory) = 3
source_status (Check check.OutOfMemory) = 3
source_status (Check _) = 1
source_status (Run f) = 3

-- words that are no command have 2
abbrev pub usage_status : ErrorKind → ℕ
usage_status kind.OutOfMemory = 3
usage_status _ = 2

-- choices, an order of turns, a format, a time of colours, a source and an input that cannot be read have 2 too, and so have tables that are
-- asked for of the machine that does not tell them
abbrev pub status_of : Ending → ℕ
status_of ending.BadChoices = 2
status_of ending.BadTurns = 2
status_of ending.BadFormat = 2
status_of ending.BadColor = 2
status_of ending.BadMaps = 2
status_of (ending.Unreadable name) = 2
status_of (ending.Source f) = source_status f
status_of ending.Refused = 1
status_of ending.BadInput = 2
status_of ending.OutOfMemory = 3

-- what a fault ends a check or a list with: why a program is refused is written already
abbrev pub ending_of : SourceFault → Ending
ending_of (Read f) = ending.Source (Read f)
ending_of (Outline f) = ending.Source (Outline f)
ending_of (Check check.OutOfMemory) = ending.OutOfMemory
ending_of (Check _) = ending.Refused
ending_of (Run f) = ending.Source (Run f)

-- what it ends with where why the program is refused is printed, wherever its fault was found
abbrev pub told_of : SourceFault → Ending
told_of (Read (read.Text f)) = ending.Refused
told_of (Read read.OutOfMemory) = ending.Source (Read read.OutOfMemory)
told_of (Outline outline.TooManyItems) = ending.Refused
told_of (Outline outline.OutOfMemory) = ending.Source (Outline outline.OutOfMemory)
told_of (Check check.OutOfMemory) = ending.OutOfMemory
told_of (Check _) = ending.Refused
told_of (Run f) = ending.Source (Run f)

-- the line of it; why a program is refused is written already
abbrev pub ending_line : Ending → List ℕ
ending_line ending.BadChoices = misuse_line misuse.Choices
ending_line ending.BadTurns = misuse_line misuse.Turns
ending_line ending.BadFormat = misuse_line misuse.Format
ending_line ending.BadColor = codes "bad color\n"
ending_line ending.BadMaps = codes "no maps with --fine\n"
ending_line (ending.Unreadable name) = misuse_line (misuse.Source name)
ending_line (ending.Source f) = fault_line f
ending_line ending.Refused = []
ending_line ending.BadInput = misuse_line misuse.Input
ending_line ending.OutOfMemory = run_line run.OutOfMemory
