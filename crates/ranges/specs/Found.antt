-- What is answered of a region.
use Rattle.std.specs.Prelude.{false, List, None}
use Rattle.base.specs.declared.fault.RangeFault.{RangeFault}
use Rattle.ranges.specs.declared.FootprintFault.{FootprintFault}
use Rattle.ranges.specs.declared.FootprintFault.TheVariants.{Range, OutOfMemory}
use Rattle.ranges.specs.Faults.{IsFirst}
use Rattle.ranges.specs.Seen.{Seen}

-- why a region has no footprint: the first of its faults of range. Memory may be wanting at any time
abbrev pub IsFootprintFault : List RangeFault → FootprintFault → Type 0
IsFootprintFault faults (Range fault) = IsFirst faults fault
IsFootprintFault faults OutOfMemory = Unit {0}

-- before the first touch
abbrev pub nothing_seen : Seen
nothing_seen = record { exposed = λ c. false; read = λ c. false; write = λ c. false; sure = λ c. false; least = None }
