use Rattle.std.proofs.Common.{◌≡◌}
use Rattle.actions.specs.Strand.{left_of, stack_of}
use Rattle.actions.specs.Weight.{weight}
use Rattle.actions.proofs.strand.Strand.advance.Given as goal

abbrev pub invariant-loop-frame : goal.invariant-loop-frame
invariant-loop-frame l = left_of l.self ≡ left_of l.initial.self

abbrev pub decreases-loop-frame : goal.decreases-loop-frame
decreases-loop-frame l = weight (stack_of l.self)
