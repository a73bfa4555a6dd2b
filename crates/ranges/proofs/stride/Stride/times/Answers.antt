use Rattle.std.proofs.Common.{arith}
use Rattle.ranges.proofs.StrideRules.{product_within, product_within_right}
use Rattle.ranges.proofs.stride.Stride.times.Goals as goal

pub returns-clause-left : goal.returns-clause-left
returns-clause-left c m s x y =
    let fits = c.in_ok-checked_mul.ensures.0 in
    product_within m s c.args.n c.args.self _ c.args.a x y c.in_ok-checked_mul-2.ensures.1 c.in_ok-checked_mul-3.ensures.1
    c.in_ok-checked_mul-4.ensures.1 (omega (arith, fits))

pub returns-clause-right : goal.returns-clause-right
returns-clause-right c m s x y =
    let fits = c.in_ok-checked_mul.ensures.0 in
    product_within_right m s c.args.n c.args.self _ c.args.a x y c.in_ok-checked_mul-2.ensures.1 c.in_ok-checked_mul-3.ensures.1
    c.in_ok-checked_mul-4.ensures.1 (omega (arith, fits))
