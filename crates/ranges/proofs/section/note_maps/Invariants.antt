use Rattle.std.proofs.Common.{◌≡◌, drop}
use Rattle.base.specs.Meaning.{lengths_of}
use Rattle.ranges.specs.Faults.{least_map}
use Rattle.ranges.proofs.section.note_maps.Given as goal

abbrev pub invariant-loop-m : goal.invariant-loop-m
invariant-loop-m l = least_map (lengths_of l.program) (drop l.m-index l.maps) l.least
    ≡ least_map (lengths_of l.program) l.maps l.initial.least
