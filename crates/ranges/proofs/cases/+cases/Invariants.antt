use Rattle.std.proofs.Common.{take}
use Rattle.ranges.specs.Cases.{AddsSlides}
use Rattle.ranges.specs.Seen.{list_touches}
use Rattle.ranges.proofs.cases.+cases.Given as goal

abbrev pub invariant-add_all-loop-s : goal.invariant-add_all-loop-s
invariant-add_all-loop-s l = AddsSlides l.turns.lengths.now l.turns.loops.now l.turns.bounds
    (λ ls. list_touches (take l.s-index l.all) ls l.certain) l.initial.slides.items l.slides.items
