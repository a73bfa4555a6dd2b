-- What is kept of a program that the third pass refuses.
use Rattle.std.specs.Prelude.{◌≡◌, List, Option}
use Rattle.base.specs.declared.tree.Program.{Program}
use Rattle.base.specs.Items.{plan}
use Rattle.order.specs.Built.{HasNoClash}
use Rattle.ranges.specs.declared.cells.Footprint.{Footprint}
use Rattle.mapwalk.specs.declared.Walked.{Walked}
use Rattle.mapwalk.specs.Footprints.{AreFootprints}
use Rattle.mapwalk.specs.Walk.{AreActs, AreCurrent, HasNoRangeFault, IsFirstRefusal, IsSound}

-- what the passes find of a program in which the first two find no fault: the order, which is that of the program, the
-- footprint of each item, and the walk
pub record AreKept (program order : Program) (found : List (Option Footprint)) (walked : Walked) : Type 0 where
  pub ordered : order ≡ program
  pub fine : HasNoRangeFault (plan program)
  pub clashes : HasNoClash (plan program)
  pub footprints : AreFootprints (plan program) found
  pub acts : AreActs (plan program) walked
  pub first : IsFirstRefusal (plan program) walked.fault
  pub sound : IsSound (plan program) walked.fault
  pub current : AreCurrent (plan program) walked
