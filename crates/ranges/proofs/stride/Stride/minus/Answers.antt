use Rattle.std.proofs.Common.{arith, refl}
use Rattle.ranges.proofs.StrideRules.{difference_within}
use Rattle.ranges.proofs.stride.Stride.minus.Goals as goal

pub returns : goal.returns
returns c m s x y =
    difference_within m s c.args.self _ c.args.b x y refl c.in_ok-checked_sub.ensures.1 c.in_ok-checked_sub.ensures.0
    c.in_ok-checked_sub-2.ensures.1
