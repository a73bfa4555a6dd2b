use Rattle.std.proofs.Common.{arith}
use Rattle.ranges.proofs.StrideRules.{sum_within}
use Rattle.ranges.proofs.stride.Stride.plus.Goals as goal

pub returns : goal.returns
returns c m s x y =
    let fits = c.in_ok-checked_add.ensures.0 in
    sum_within m s c.args.self c.args.other _ c.args.a c.args.b x y c.in_ok-checked_add-2.ensures.1 c.in_ok-checked_add-3.ensures.1
    c.in_ok-checked_add-4.ensures.1 (omega (arith, fits))
