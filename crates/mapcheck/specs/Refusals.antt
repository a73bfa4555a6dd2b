-- Of a program that is refused, the fault that is told.
use Rattle.std.specs.Prelude.{◌≡◌}
use Rattle.base.specs.declared.fault.CheckFault.{CheckFault}
use Rattle.base.specs.declared.fault.CheckFault.TheVariants as check
use Rattle.base.specs.declared.tree.Program.{Program}
use Rattle.base.specs.Accepted.{IsFirstFault}
use Rattle.base.specs.Accepted as accepted
use Rattle.base.specs.Items.{plan}
use Rattle.mapcheck.specs.declared.kept.Refused.{Refused}
use Rattle.mapcheck.specs.declared.kept.Refused.TheVariants as refused
use Rattle.mapcheck.specs.Passes.{IsCheckFault}

-- the program is refused by its first fault; by the third pass with what the passes found of it
abbrev pub IsRefusalOf : Program → Refused → Type 0
IsRefusalOf program (refused.Early f) = IsCheckFault (plan program) f
IsRefusalOf program (refused.Walked r passed) = IsFirstFault (plan program) (accepted.Refused r) × passed ≡ program

-- that fault
abbrev pub IsFaultOf : Refused → CheckFault → Type 0
IsFaultOf (refused.Early f) fault = fault ≡ f
IsFaultOf (refused.Walked r passed) fault = fault ≡ check.Refused r
