use Rattle.std.proofs.Common.{take}
use Rattle.ranges.specs.Slides.{AllMoveBy, slope_in}
use Rattle.ranges.proofs.slides.alike.Given as goal

abbrev pub invariant-loop-s : goal.invariant-loop-s
invariant-loop-s l = AllMoveBy (slope_in l.slides) (take l.s-index l.slides)
