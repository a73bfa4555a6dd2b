use Rattle.ranges.proofs.StrideApart.{exact_factor}
use Rattle.ranges.proofs.StrideRules.{factor_within, none_within}
use Rattle.ranges.proofs.stride.factor.Goals as goal

pub returns-then-modulus-n-eq0 : goal.returns-then-modulus-n-eq0
returns-then-modulus-n-eq0 c w s x = factor_within c.args.modulus c.args.n _ s w x
    (exact_factor c.args.modulus c.args.n c.if-modulus-n-eq0.true)

pub returns-else-n-gt0 : goal.returns-else-n-gt0
returns-else-n-gt0 c w s x = none_within c.args.modulus c.args.n s w x
