use Rattle.std.proofs.Common.{◌≡◌, drop}
use Rattle.ranges.specs.Slides.{slope_in}
use Rattle.ranges.proofs.slides.slope_of.Given as goal

abbrev pub invariant-loop-s : goal.invariant-loop-s
invariant-loop-s l = slope_in (drop l.s-index l.slides) l.array.0 ≡ slope_in l.slides l.array.0
