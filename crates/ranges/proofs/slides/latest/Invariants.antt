use Rattle.std.proofs.Common.{◌≤◌, length}
use Rattle.ranges.specs.Slides.{starts}
use Rattle.ranges.proofs.SlideOrder.{IsAhead}
use Rattle.ranges.proofs.slides.latest.Given as goal

abbrev pub invariant-loop-i : goal.invariant-loop-i
invariant-loop-i l = record { below : l.i ≤ length l.slides; ahead : IsAhead (starts l.slides) l.i l.latest }
