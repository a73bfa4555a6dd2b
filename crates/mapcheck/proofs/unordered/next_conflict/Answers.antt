use Rattle.base.specs.Items.{plan}
use Rattle.mapcheck.proofs.Clearance.{none_before}
use Rattle.mapcheck.proofs.Pairs.{item_there}
use Rattle.mapcheck.proofs.unordered.next_conflict.Goals as goal

pub returns-then-after-item-clause-conflict : goal.returns-then-after-item-clause-conflict
returns-then-after-item-clause-conflict c =
    let p = plan c.args.order.now in
    none_before p c.args.item c.args.place c.if-item-place.false
    (item_there p c.args.accesses.now c.args.item c.requires.accesses c.requires.inside) c.requires.before
