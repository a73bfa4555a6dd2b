-- Why a program is not accepted.
use Rattle.base.specs.declared.fault.CheckFault.{CheckFault}
use Rattle.base.specs.declared.fault.CheckFault.TheVariants as check
use Rattle.std.specs.Prelude.{ℕ}
use Rattle.base.specs.Items.{Plan}
use Rattle.ranges.specs.declared.FootprintFault.{FootprintFault}
use Rattle.ranges.specs.declared.FootprintFault.TheVariants as Footprint
use Rattle.base.specs.Accepted.{IsFirstFault, Order, Range, Refused}

-- the first fault of a plan. Memory may be wanting at any time
abbrev pub IsCheckFault : Plan → CheckFault → Type 0
IsCheckFault plan (check.Range i f) = IsFirstFault plan (Range i f)
IsCheckFault plan (check.Order f) = IsFirstFault plan (Order f)
IsCheckFault plan (check.Refused r) = IsFirstFault plan (Refused r)
IsCheckFault plan check.OutOfMemory = Unit {0}

abbrev pub range_fault : ℕ → FootprintFault → CheckFault
range_fault item (Footprint.Range f) = check.Range item f
range_fault item Footprint.OutOfMemory = check.OutOfMemory
