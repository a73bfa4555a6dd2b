use Rattle.std.proofs.Common.{◌≡◌, drop}
use Rattle.base.specs.Meaning.{lengths_of}
use Rattle.ranges.specs.Faults.{least_depend}
use Rattle.ranges.proofs.section.note_depends.Given as goal

abbrev pub invariant-loop-d : goal.invariant-loop-d
invariant-loop-d l = least_depend (lengths_of l.program) (drop l.d-index l.depends) l.least
    ≡ least_depend (lengths_of l.program) l.depends l.initial.least
