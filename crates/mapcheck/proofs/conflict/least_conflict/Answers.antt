use Rattle.std.proofs.Common.{subst, List, arith}
use Rattle.base.specs.Least.{IsLeast}
use Rattle.mapcheck.specs.declared.accesses.Access.{Access}
use Rattle.mapcheck.specs.Collisions.{collides, some_collide}
use Rattle.mapcheck.proofs.Collisions.{least_conflict, none_further, one_further}
use Rattle.mapcheck.proofs.conflict.least_conflict.Goals as goal

pub accesses-preserved : goal.accesses-preserved
accesses-preserved c =
    one_further (λ a. collides a c.args.right.now.list.items) c.deref-access-items.result.now c.accesses.access-index
    c.access-item.result c.accesses.least c.lesser-least.result c.least_with.result (omega arith) c.access-item.is
    c.accesses.invariant
    (subst (λ (ys : List Access). IsLeast (collides c.access-item.result ys) c.least_with.result) c.deref.ensures.value
    c.least_with.ensures)
    c.lesser-least.ensures

pub returns : goal.returns
returns c =
    least_conflict c.args.left.now c.args.right.now c.accesses.least
    (subst (λ (xs : List Access). IsLeast (some_collide xs c.args.right.now.list.items) c.accesses.least)
    c.deref-access-items.ensures.value
    (none_further (λ a. collides a c.args.right.now.list.items) c.deref-access-items.result.now c.accesses.access-index
    c.accesses.least (omega arith) c.accesses.invariant))
