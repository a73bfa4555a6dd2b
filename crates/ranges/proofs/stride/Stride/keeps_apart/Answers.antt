use Rattle.std.proofs.Common.{arith}
use Rattle.std.proofs.lemmas.Bool.{ltb-true}
use Rattle.ranges.proofs.StrideApart.{agree_modulo, agree_plain}
use Rattle.ranges.proofs.stride.Stride.keeps_apart.Goals as goal

pub returns-then-modulus-eq0 : goal.returns-then-modulus-eq0
returns-then-modulus-eq0 c none u v i x y a d g h x_low x_high y_low y_high =
    let more = c.if-width-saturating_mul.true in
    let product = c.saturating_mul.ensures in
    let is = c.in-Some.ensures in
    agree_plain c.args.modulus c.args.self c.args.bounds c.in-Some.width (omega (arith, is.0, is.1)) (omega (arith, more, product))
    u v i x y a d g h x_low x_high y_low y_high c.if-modulus-eq0.true

pub returns-else-modulus-eq0 : goal.returns-else-modulus-eq0
returns-else-modulus-eq0 c small u v i x y a d g h x_low x_high y_low y_high =
    let more = c.if-width-saturating_mul.true in
    let product = c.saturating_mul.ensures in
    let is = c.in-Some.ensures in
    let less = ltb-true c.reach.result c.args.modulus small in
    let fits = c.ranges.modulus.fits in
    agree_modulo c.args.modulus c.args.self c.args.bounds c.in-Some.width (omega (arith, is.0, is.1)) (omega (arith, more, product))
    u v i x y a d g h x_low x_high y_low y_high
    c.reach.result (c.reach.ensures (omega (arith, less, fits))) less
