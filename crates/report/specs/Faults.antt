-- The lines of faults that name no cell, and of commands that cannot be done.
use Rattle.std.specs.Prelude.{ℕ, List, ◌++◌, codes, decimal}
use Rattle.base.specs.Codes.{range_code, read_code, refusal_code}
use Rattle.base.specs.declared.fault.ReadFault.{ReadFault}
use Rattle.base.specs.declared.fault.ReadFault.TheVariants as read
use Rattle.base.specs.declared.fault.OutlineFault.{OutlineFault}
use Rattle.base.specs.declared.fault.OutlineFault.TheVariants as outline
use Rattle.base.specs.declared.fault.CheckFault.{CheckFault}
use Rattle.base.specs.declared.fault.CheckFault.TheVariants as check
use Rattle.base.specs.declared.fault.RunFault.{RunFault}
use Rattle.base.specs.declared.fault.RunFault.TheVariants as run
use Rattle.base.specs.declared.fault.SourceFault.{SourceFault}
use Rattle.base.specs.declared.fault.SourceFault.TheVariants.{Read, Outline, Check, Run}
use Rattle.report.specs.declared.faults.Misuse.{Misuse}
use Rattle.report.specs.declared.faults.Misuse.TheVariants as misuse
use Rattle.report.specs.Refusals.{place_text}

abbrev pub read_line : ReadFault → List ℕ
read_line (read.Text f) = read_code f.code ++ (place_text f.line f.column ++ codes "\n")
read_line read.OutOfMemory = codes "F1\n"

abbrev pub outline_line : OutlineFault → List ℕ
outline_line outline.TooManyItems = codes "E401\n"
outline_line outline.OutOfMemory = codes "F1\n"

-- the code alone
abbrev pub code_line : CheckFault → List ℕ
code_line (check.Range i f) = range_code f.code ++ codes "\n"
code_line (check.Order f) = codes "E505\n"
code_line (check.Refused r) = refusal_code r.code ++ codes "\n"
code_line check.OutOfMemory = codes "F1\n"

abbrev pub run_line : RunFault → List ℕ
run_line run.OutOfMemory = codes "F1\n"
run_line run.DeviceFull = codes "F2\n"
run_line run.Stranger = codes "F3\n"
run_line run.Absent = codes "F4\n"
run_line run.ThreadNotStarted = codes "F5\n"
run_line run.OtherState = codes "F6\n"
run_line run.RangeRefused = codes "F7\n"

abbrev pub fault_line : SourceFault → List ℕ
fault_line (Read f) = read_line f
fault_line (Outline f) = outline_line f
fault_line (Check f) = code_line f
fault_line (Run f) = run_line f

abbrev pub misuse_line : Misuse → List ℕ
misuse_line misuse.Choices = codes "bad choices\n"
misuse_line misuse.Turns = codes "bad turns\n"
misuse_line misuse.Format = codes "bad format\n"
misuse_line (misuse.Source name) = codes "cannot read " ++ (name.now ++ codes "\n")
misuse_line misuse.Input = codes "bad input\n"

-- that no change of a source was found, and how much was tried
abbrev pub no_change_line : ℕ → ℕ → List ℕ
no_change_line steps checks =
    codes "no change found: steps " ++ (decimal steps ++ (codes ", checks " ++ (decimal checks ++ codes "\n")))
