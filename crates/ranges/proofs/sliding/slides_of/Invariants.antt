use Rattle.std.proofs.Common.{◌-◌, take}
use Rattle.ranges.specs.Slides.{AllFit, AreSlidesOf}
use Rattle.ranges.proofs.sliding.slides_of.Given as goal

abbrev pub invariant-loop-access : goal.invariant-loop-access
invariant-loop-access l = record {
  are : AreSlidesOf l.loops l.bounds l.certain (take l.access-index l.accesses) l.slides.items;
  fit : AllFit l.lengths (l.bounds.end - l.bounds.first) l.slides.items;
}
