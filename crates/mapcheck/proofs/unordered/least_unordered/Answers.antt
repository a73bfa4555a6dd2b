use Rattle.std.proofs.Common.{arith}
use Rattle.std.proofs.lemmas.Bool.{iff_false}
use Rattle.base.specs.Items.{plan}
use Rattle.mapcheck.proofs.Pairs.{least_unordered}
use Rattle.mapcheck.proofs.unordered.least_unordered.Goals as goal

pub returns : goal.returns
returns c =
    least_unordered (plan c.args.order.now) c.args.accesses.now c.args.other c.args.item c.index-accesses-other.result
    c.index-accesses-item.result c.least_conflict.result c.requires.accesses c.requires.earlier
    (omega (arith, c.requires)) c.requires.inside c.index-accesses-other.is c.index-accesses-item.is
    (iff_false c.before-2.ensures c.if-before.false) c.least_conflict.ensures
