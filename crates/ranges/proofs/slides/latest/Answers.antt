use Rattle.std.proofs.Common.{arith}
use Rattle.ranges.specs.Slides.{starts}
use Rattle.ranges.proofs.SlideOrder.{ahead_is_latest, first_ahead, next_ahead}
use Rattle.ranges.proofs.slides.latest.Goals as goal

pub loop-i-init : goal.loop-i-init
loop-i-init c = record { below = c.requires; ahead = first_ahead (starts c.args.slides.now) }

pub loop-i-preserved : goal.loop-i-preserved
loop-i-preserved c = record {
  below = let inside = c.loop-i-test.true in omega (arith, inside);
  ahead =
      next_ahead (starts c.args.slides.now) c.loop-i.i c.loop-i.latest c.later-latest.result c.loop-i.invariant.ahead
      c.later-latest.ensures;
}

pub returns : goal.returns
returns c =
    ahead_is_latest c.args.slides.now c.loop-i.i c.loop-i.latest c.loop-i.invariant.below c.loop-i-test.false
    c.loop-i.invariant.ahead
