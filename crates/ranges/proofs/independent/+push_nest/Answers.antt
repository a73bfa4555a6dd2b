use Rattle.std.proofs.Common.{arith}
use Rattle.ranges.proofs.independent.+push_nest.Goals as goal

pub push_nest-requires : goal.push_nest-requires
push_nest-requires t c =
    let some = c.in-Some.ensures.some in
    let bound = c.decreases in
    (omega (arith, some, bound), tt)
