use Rattle.std.proofs.Common.{◌∙◌}
use Rattle.ranges.specs.Slides.{slope_in}
use Rattle.ranges.proofs.SlideSlopes.{more_move}
use Rattle.ranges.proofs.slides.alike.Goals as goal

pub loop-s-preserved : goal.loop-s-preserved
loop-s-preserved c =
    more_move (slope_in c.args.slides.now) c.args.slides.now c.loop-s.s-index _ c.loop-s-test.true c.loop-s.invariant
    (c.if-s-slope_of.false ∙ c.slope_of.ensures)
