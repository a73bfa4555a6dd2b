use Rattle.std.proofs.Common.{arith}
use Rattle.mapcheck.specs.Collisions.{collide}
use Rattle.mapcheck.proofs.Collisions.{none_further, one_further}
use Rattle.mapcheck.proofs.conflict.least_with.Goals as goal

pub others-preserved : goal.others-preserved
others-preserved c =
    one_further (collide c.args.access.now) c.args.others.now c.others.other-index c.other-item.result c.others.least
    c.lesser-least.result c.least_of_two.result (omega arith) c.other-item.is c.others.invariant c.least_of_two.ensures
    c.lesser-least.ensures

pub returns : goal.returns
returns c =
    none_further (collide c.args.access.now) c.args.others.now c.others.other-index c.others.least (omega arith)
    c.others.invariant
